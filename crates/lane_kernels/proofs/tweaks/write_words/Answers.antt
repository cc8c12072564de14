use Rattle.std.proofs.Common.{sym, ◌∙◌}
use Rattle.cipher_base.proofs.Words.{eight, both_written}
use Rattle.lane_kernels.proofs.tweaks.write_words.Goals as goal

pub returns : goal.returns
returns c =
    both_written c.args.block.now c.copy_from_slice.new.self c.copy_from_slice-2.new.self c.args.low c.args.high c.requires
    (c.copy_from_slice.ensures.after ∙ c.to_le_bytes.ensures ∙ sym (eight c.args.low))
    (c.copy_from_slice-2.ensures.after ∙ c.to_le_bytes-2.ensures ∙ sym (eight c.args.high))
    c.ranges.low.fits c.ranges.high.fits
