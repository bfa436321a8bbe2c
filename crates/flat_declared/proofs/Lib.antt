mod Tables
mod Items
