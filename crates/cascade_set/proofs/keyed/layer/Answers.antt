use Rattle.std.proofs.Common.{◌≤◌, ℕ, ap, subst, ◌∙◌}
use Rattle.aes_core.specs.Aes as aes
use Rattle.serpent_core.specs.Serpent as serpent
use Rattle.twofish_core.specs.Twofish as twofish
use Rattle.algorithm_names.specs.declared.algorithm.Cipher.TheVariants.{Aes, Serpent, Twofish}
use Rattle.cascade_set.proofs.InTurn.{no_layer, no_layer_undone, one_layer, one_layer_undone}
use Rattle.cascade_set.proofs.keyed.layer.Goals as goal

pub returns-then-i-k-clause-enciphers : goal.returns-then-i-k-clause-enciphers
returns-then-i-k-clause-enciphers c =
    no_layer c.args.keys.now c.args.i (subst (λ (k : ℕ). k ≤ c.args.i) c.ciphers-k.ensures c.if-i-k.true)

pub returns-then-i-k-clause-deciphers : goal.returns-then-i-k-clause-deciphers
returns-then-i-k-clause-deciphers c =
    no_layer_undone c.args.keys.now c.args.i (subst (λ (k : ℕ). k ≤ c.args.i) c.ciphers-k.ensures c.if-i-k.true)

pub returns-in-Aes-clause-enciphers : goal.returns-in-Aes-clause-enciphers
returns-in-Aes-clause-enciphers c =
    one_layer c.args.keys.now c.args.i c.ciphers-k.result Aes _ _ c.ciphers-k.ensures c.in-Aes.ensures
    (λ b. c.new-in-Aes-2.ensures.tweak b ∙ c.new-in-Aes.ensures.enciphers b ∙ ap (λ k. aes.enciphered k b) c.key_of-tweak.ensures)
    (λ b. c.new-in-Aes-2.ensures.main b ∙ c.new.ensures.enciphers b ∙ ap (λ k. aes.enciphered k b) c.key_of-main.ensures)

pub returns-in-Aes-clause-deciphers : goal.returns-in-Aes-clause-deciphers
returns-in-Aes-clause-deciphers c =
    one_layer_undone c.args.keys.now c.args.i c.ciphers-k.result Aes _ _ c.ciphers-k.ensures c.in-Aes.ensures
    (λ b. c.new-in-Aes-2.ensures.tweak b ∙ c.new-in-Aes.ensures.enciphers b ∙ ap (λ k. aes.enciphered k b) c.key_of-tweak.ensures)
    (λ b. c.new-in-Aes-2.ensures.back b ∙ c.new.ensures.deciphers b ∙ ap (λ k. aes.deciphered k b) c.key_of-main.ensures)

pub returns-in-Serpent-clause-enciphers : goal.returns-in-Serpent-clause-enciphers
returns-in-Serpent-clause-enciphers c =
    one_layer c.args.keys.now c.args.i c.ciphers-k.result Serpent _ _ c.ciphers-k.ensures c.in-Serpent.ensures
    (λ b. c.new-in-Serpent-3.ensures.tweak b ∙ c.new-in-Serpent-2.ensures.enciphers b ∙ ap (λ k. serpent.enciphered k b) c.key_of-tweak.ensures)
    (λ b. c.new-in-Serpent-3.ensures.main b ∙ c.new-in-Serpent.ensures.enciphers b ∙ ap (λ k. serpent.enciphered k b) c.key_of-main.ensures)

pub returns-in-Serpent-clause-deciphers : goal.returns-in-Serpent-clause-deciphers
returns-in-Serpent-clause-deciphers c =
    one_layer_undone c.args.keys.now c.args.i c.ciphers-k.result Serpent _ _ c.ciphers-k.ensures c.in-Serpent.ensures
    (λ b. c.new-in-Serpent-3.ensures.tweak b ∙ c.new-in-Serpent-2.ensures.enciphers b ∙ ap (λ k. serpent.enciphered k b) c.key_of-tweak.ensures)
    (λ b. c.new-in-Serpent-3.ensures.back b ∙ c.new-in-Serpent.ensures.deciphers b ∙ ap (λ k. serpent.deciphered k b) c.key_of-main.ensures)

pub returns-in-Twofish-clause-enciphers : goal.returns-in-Twofish-clause-enciphers
returns-in-Twofish-clause-enciphers c =
    one_layer c.args.keys.now c.args.i c.ciphers-k.result Twofish _ _ c.ciphers-k.ensures c.in-Twofish.ensures
    (λ b. c.new-in-Twofish-3.ensures.tweak b ∙ c.new-in-Twofish-2.ensures.enciphers b ∙ ap (λ k. twofish.enciphered k b) c.key_of-tweak.ensures)
    (λ b. c.new-in-Twofish-3.ensures.main b ∙ c.new-in-Twofish.ensures.enciphers b ∙ ap (λ k. twofish.enciphered k b) c.key_of-main.ensures)

pub returns-in-Twofish-clause-deciphers : goal.returns-in-Twofish-clause-deciphers
returns-in-Twofish-clause-deciphers c =
    one_layer_undone c.args.keys.now c.args.i c.ciphers-k.result Twofish _ _ c.ciphers-k.ensures c.in-Twofish.ensures
    (λ b. c.new-in-Twofish-3.ensures.tweak b ∙ c.new-in-Twofish-2.ensures.enciphers b ∙ ap (λ k. twofish.enciphered k b) c.key_of-tweak.ensures)
    (λ b. c.new-in-Twofish-3.ensures.back b ∙ c.new-in-Twofish.ensures.deciphers b ∙ ap (λ k. twofish.deciphered k b) c.key_of-main.ensures)
