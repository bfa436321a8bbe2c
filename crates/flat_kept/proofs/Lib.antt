mod Numbers
mod Steps
mod Places
