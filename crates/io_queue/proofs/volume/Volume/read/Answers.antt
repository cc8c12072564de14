use Rattle.std.proofs.Common.{rules, ◌≡◌, ◌+◌, ◌*◌, ◌/◌, length, arith}
use Rattle.sector_model.specs.Array.{Fits, sectors_of}
use Rattle.io_queue.specs.Pass.{shape}
use Rattle.io_queue.proofs.Within.{units_within}
use Rattle.io_queue.proofs.volume.Volume.read.Goals as goal

pub decipher_all-requires-clause-within : goal.decipher_all-requires-clause-within
decipher_all-requires-clause-within g c = λ l κ.
    let fits : Fits (shape c.args.self.now.geometry) c.args.first (sectors_of (shape c.args.self.now.geometry) c.args.out.now) = search rules in
    let bound = units_within c.args.self.now.geometry c.args.first c.args.out.now c.args.self.now.place c.requires.whole fits in
    let same : length c.fetch.new.out ≡ length c.args.out.now = c.fetch.ensures.length in
    let unit : c.unit_of-unit.result ≡ c.args.self.now.geometry.start / 512 + c.args.self.now.geometry.sector / 512 * c.args.first = c.unit_of-unit.ensures in
    omega (arith, bound, same, unit)
