-- all that is said of an image that formatting makes
pub mod Made
