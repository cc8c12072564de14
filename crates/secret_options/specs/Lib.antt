-- argument lists whose secrets are in files
pub mod Arguments
-- what a file's content is as a secret
pub mod Content
-- what only private contracts cite
pub mod Laws
