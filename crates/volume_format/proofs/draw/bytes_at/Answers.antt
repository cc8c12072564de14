use Rattle.std.proofs.Common.{◌≡◌, ℕ, length, ◌+◌, ◌/◌, ◌%◌, ◌^◌, ◌∙◌, ap₂, ap}
use Rattle.rand_chacha.specs.ChaCha.{ChaCha}
use Rattle.volume_format.specs.Stream.{advanced, stream_bytes}
use Rattle.volume_format.proofs.Draws.{stream_advanced}
use Rattle.volume_format.proofs.draw.bytes_at.Goals as goal

pub returns-clause-bytes : goal.returns-clause-bytes
returns-clause-bytes c =
    let place : (c.get_word_pos-place.result + c.from.result) % 2 ^ 68 ≡
    (c.args.rng.now.word_pos + c.args.at / 4) % 2 ^ 68
    = ap₂ (λ (p q : ℕ). (p + q) % 2 ^ 68) c.get_word_pos-place.ensures.value c.from.ensures in
    let moved : c.set_word_pos.new.self ≡ advanced c.args.rng.now c.args.at
    = c.set_word_pos.ensures ∙ (λ i. record c.args.rng.now { word_pos = place i }) in
    c.next_bytes.ensures.bytes ∙ ap (λ (g : ChaCha). stream_bytes g 0 (length c.args.bytes.now)) moved ∙ stream_advanced
    c.args.rng.now c.args.at (length c.args.bytes.now)
