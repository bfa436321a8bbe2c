pub mod OwnKeys
