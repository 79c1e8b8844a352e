-- What stands in a word field and in a figure field. Assumes nothing.
pub mod BigEndian
pub mod Contents
