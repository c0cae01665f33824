-- The words that say what a line of a bus tells.
use Rattle.std.specs.Prelude.{ℕ, List, [], ◌∷◌, Option, codes, bytes_eq, find}
use Rattle.bus_log.specs.declared.verb.Verb.{Verb}
use Rattle.bus_log.specs.declared.verb.Verb.TheVariants.{Req, Full, Drop, Keep, Discard, Wake, Sleep, Rate, FdRate, Status, State, FormatError, Bad, Told, Back, Start, Lost, Done, Fail, Hurt}

abbrev pub verb_text : Verb → List ℕ
verb_text Req = codes "req"
verb_text Full = codes "full"
verb_text Drop = codes "drop"
verb_text Keep = codes "keep"
verb_text Discard = codes "discard"
verb_text Wake = codes "wake"
verb_text Sleep = codes "sleep"
verb_text Rate = codes "rate"
verb_text FdRate = codes "fdrate"
verb_text Status = codes "status"
verb_text State = codes "state"
verb_text FormatError = codes "ferr"
verb_text Bad = codes "bad"
verb_text Told = codes "told"
verb_text Back = codes "back"
verb_text Start = codes "start"
verb_text Lost = codes "lost"
verb_text Done = codes "done"
verb_text Fail = codes "fail"
verb_text Hurt = codes "hurt"

-- the first of these that has this text
abbrev pub named : {A : Type 0} → (A → List ℕ) → List A → List ℕ → Option A
named text all word = find (λ a. bytes_eq word (text a)) all

abbrev pub verbs : List Verb
verbs = Req ∷ Full ∷ Drop ∷ Keep ∷ Discard ∷ Wake ∷ Sleep ∷ Rate ∷ FdRate ∷ Status ∷ State ∷ FormatError ∷ Bad ∷ Told ∷ Back ∷ Start ∷ Lost
    ∷ Done ∷ Fail ∷ Hurt ∷ []

abbrev pub verb_named : List ℕ → Option Verb
verb_named word = named verb_text verbs word
