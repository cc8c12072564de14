use Rattle.vc_base.specs.Words.{words_of}
use Rattle.twofish_core.specs.Laws.Words.{same_four}
use Rattle.twofish_core.proofs.words.words_of.Goals as goal

pub returns : goal.returns
unfolding words_of
returns c =
    same_four _ _ _ _ _ _ _ _
    c.word_of.ensures c.word_of-2.ensures c.word_of-3.ensures c.word_of-4.ensures
