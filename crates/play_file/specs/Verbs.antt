-- The verbs of the code, as the definitions have them.
use Rattle.play_specs.specs.Play as play
use Rattle.play_file.specs.declared.action.Verb.{Verb}
use Rattle.play_file.specs.declared.action.Verb.TheVariants.{Send, Wake, Sleep, Keep, Discard}

abbrev pub verb_of : Verb → play.Verb
verb_of (Send f) = play.Send f
verb_of Wake = play.Wake
verb_of Sleep = play.Sleep
verb_of Keep = play.Keep
verb_of Discard = play.Discard
