mod Induction
mod Same
mod Nodes
