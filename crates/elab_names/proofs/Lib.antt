mod Agreement
mod Tables
mod Items
