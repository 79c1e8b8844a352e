pub mod BigEndian
pub mod Contents
