mod Copying
mod Nodes
