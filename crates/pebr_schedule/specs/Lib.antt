pub mod Numbers
pub mod Rest
pub mod Grammar
pub mod Printed
pub mod Spelled
