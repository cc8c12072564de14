-- a race over derivations, which only private contracts cite
pub mod Laws
-- the definitions of the crates below that the contracts here cite
pub use Rattle.vc_layout.specs.Layout
pub use Rattle.vc_layout.specs.Kinds
pub use Rattle.vc_header.specs.Header
pub use Rattle.header_seal.specs.Candidates
