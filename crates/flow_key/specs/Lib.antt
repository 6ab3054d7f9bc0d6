pub mod Key
pub mod Fields
pub mod KeyWith
pub mod Laws
