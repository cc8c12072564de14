-- Each layer is lawful, and so are three in turn.
use Rattle.cascade_set.specs.Laws.Lawful.{IsLawful, in_turn_is_lawful, nothing_is_lawful}
use Rattle.cascade_set.specs.declared.stretch.AnyLayer.{AnyLayer}
use Rattle.cascade_set.specs.declared.stretch.AnyLayer.TheVariants.{Nothing, Aes, Serpent, Twofish}
use Rattle.cascade_set.specs.contracts.stretch.AnyLayerStretch.TheImpl.{ghosts}

pub layer_is_lawful : (layer : AnyLayer) → IsLawful (ghosts.enciphered layer) (ghosts.deciphered layer)
layer_is_lawful Nothing = nothing_is_lawful
layer_is_lawful (Aes layer) = layer.lawful
layer_is_lawful (Serpent layer) = layer.lawful
layer_is_lawful (Twofish layer) = layer.lawful

pub three_are_lawful : (first second third : AnyLayer)
    → IsLawful (λ n s. ghosts.enciphered third n (ghosts.enciphered second n (ghosts.enciphered first n s)))
    (λ n s. ghosts.deciphered first n (ghosts.deciphered second n (ghosts.deciphered third n s)))
three_are_lawful first second third =
    in_turn_is_lawful (λ n s. ghosts.enciphered second n (ghosts.enciphered first n s))
    (λ n s. ghosts.deciphered first n (ghosts.deciphered second n s))
    (ghosts.enciphered third) (ghosts.deciphered third)
    (in_turn_is_lawful (ghosts.enciphered first) (ghosts.deciphered first) (ghosts.enciphered second)
    (ghosts.deciphered second) (layer_is_lawful first) (layer_is_lawful second))
    (layer_is_lawful third)
