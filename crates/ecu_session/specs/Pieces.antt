-- What a call of the code leaves of a piece of a session. No public clause cites this file.
use Rattle.std.specs.Prelude.{◌≡◌, Result, Ok, Err}
use Rattle.log_lines.specs.Lines.{cause_of}
use Rattle.log_specs.specs.Line.{Cause}
use Rattle.ecu_session.specs.declared.causes.Stop.{Stop}
use Rattle.ecu_session.specs.declared.causes.Stop.TheVariants as stop

abbrev pub StopsAt : {S B : Type 0} → Stop → S → (Result B Cause × S) → Type 0
StopsAt (stop.Down why) s piece = piece ≡ (Err (cause_of why), s)
StopsAt stop.Memory s piece = Unit {0}

-- What a call returned, seen by view, and the state that it left, are what a piece comes to, unless memory ran out.
abbrev pub ComesTo : {S A B : Type 0} → (A → B) → Result A Stop → S → (Result B Cause × S) → Type 0
ComesTo view (Ok x) s piece = piece ≡ (Ok (view x), s)
ComesTo view (Err e) s piece = StopsAt e s piece

abbrev pub HoldsAt : Stop → Type 0 → Type 0
HoldsAt (stop.Down why) P = P
HoldsAt stop.Memory P = Unit {0}

-- holds unless memory ran out
abbrev pub UnlessMemory : {A : Type 0} → Result A Stop → Type 0 → Type 0
UnlessMemory (Ok x) P = P
UnlessMemory (Err e) P = HoldsAt e P
