use Rattle.vc_base.proofs.Remainders.{IsRemainder-product}
use Rattle.vc_base.proofs.Products.{product_one, product_comm, product_assoc, product_xor_second}
use Rattle.vc_base.proofs.products_form_a_ring.Goals as goal

pub returns-clause-remains : goal.returns-clause-remains
returns-clause-remains c = IsRemainder-product

pub returns-clause-one : goal.returns-clause-one
returns-clause-one c = product_one

pub returns-clause-turned : goal.returns-clause-turned
returns-clause-turned c = product_comm

pub returns-clause-grouped : goal.returns-clause-grouped
returns-clause-grouped c = product_assoc

pub returns-clause-linear : goal.returns-clause-linear
returns-clause-linear c = product_xor_second
