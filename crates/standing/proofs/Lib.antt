pub mod Here
