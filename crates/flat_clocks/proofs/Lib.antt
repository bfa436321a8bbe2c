mod Puts
mod Handed
