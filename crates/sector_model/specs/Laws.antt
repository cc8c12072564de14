-- small histories, legal and not
pub mod Examples
