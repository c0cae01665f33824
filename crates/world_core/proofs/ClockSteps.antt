-- The clock entries of a node, one after the other.
use Rattle.std.proofs.Common.{◌≡◌, ◌<◌, ◌+◌, ◌-◌, ℕ, suc, Bool, if◌then◌else◌, List, [], ◌∷◌, ◌++◌, map, take, drop, length, get_or, replicate, Option, None, arith, sym, ap, ◌∙◌, slice_set}
use Rattle.std.specs.Prelude.{slice_index}
use Rattle.std.proofs.lemmas.List.{drop_more, get_or-drop, length-drop, take-append-drop}
use Rattle.session_specs.specs.Outcome.{Clear}
use Rattle.ecu_session.specs.declared.dues.DueChange.{DueChange}
use Rattle.ecu_session.specs.Words.{due_change_of}
use Rattle.world_specs.specs.Sessions.{ticks, ticking_from, clock_after}
use Rattle.clock_queue.specs.Dues.{due_of}
use Rattle.world_core.specs.Clocks.{settled}
use Rattle.world_core.proofs.Settling.{settled-one, ticked-more}

pub settled-none : (now e : ℕ) (cs : List (Option ℕ)) → settled now e [] cs ≡ cs
settled-none now e cs = take-append-drop e cs

pub settle-on : (now first place : ℕ) (changes : List DueChange) (x : DueChange) (cs after all : List (Option ℕ)) → place < length changes → x ≡ get_or changes place x
    → first + place < length cs → after ≡ slice_set cs (first + place) (clock_after now (due_change_of x) (due_of cs (first + place)))
    → settled now (first + place) (map due_change_of (drop place changes)) cs ≡ all → settled now (first + (place + 1)) (map due_change_of (drop (place + 1) changes)) after ≡ all
settle-on now first place changes x cs after all inside at within e h =
    let k : first + (place + 1) ≡ (first + place) + 1 = omega arith in
    let next : map due_change_of (drop place changes) ≡ due_change_of x ∷ map due_change_of (drop (place + 1) changes) =
    ap (map due_change_of) (drop_more changes place x inside) ∙ ap (λ y. due_change_of y ∷ map due_change_of (drop (place + 1) changes)) (sym at) in
    ap (λ c. settled now (first + (place + 1)) (map due_change_of (drop (place + 1) changes)) c) e
    ∙ ap (λ n. settled now n (map due_change_of (drop (place + 1) changes)) (slice_set cs (first + place) (clock_after now (due_change_of x) (due_of cs (first + place))))) k
    ∙ settled-one now (first + place) (due_change_of x) (map due_change_of (drop (place + 1) changes)) cs within
    ∙ ap (λ ds. settled now (first + place) ds cs) (sym next)
    ∙ h

pub clear-on : (first place count : ℕ) (cs after all : List (Option ℕ)) → place < count → first + place < length cs → after ≡ slice_set cs (first + place) None
    → settled 0 (first + place) (replicate (count - place) Clear) cs ≡ all → settled 0 (first + (place + 1)) (replicate (count - (place + 1)) Clear) after ≡ all
clear-on first place count cs after all inside within e h =
    let k : first + (place + 1) ≡ (first + place) + 1 = omega arith in
    let left : count - place ≡ suc (count - (place + 1)) = omega arith in
    ap (λ c. settled 0 (first + (place + 1)) (replicate (count - (place + 1)) Clear) c) e
    ∙ ap (λ n. settled 0 n (replicate (count - (place + 1)) Clear) (slice_set cs (first + place) None)) k
    ∙ settled-one 0 (first + place) Clear (replicate (count - (place + 1)) Clear) cs within
    ∙ ap (λ n. settled 0 (first + place) (replicate n Clear) cs) (sym left)
    ∙ h

pub ticked-on : (now first place : ℕ) (countdown : List ℕ) (cs : List (Option ℕ)) (values after : List ℕ) (test : Bool) → first + place < length cs
    → test ≡ ticks now (due_of cs (first + place)) → after ≡ values ++ (if test then slice_index countdown place ∷ [] else [])
    → values ≡ map (slice_index countdown) (ticking_from 0 now (take place (drop first cs)))
    → after ≡ map (slice_index countdown) (ticking_from 0 now (take (place + 1) (drop first cs)))
ticked-on now first place countdown cs values after test within t e h =
    let inside : place < length (drop first cs) = simp length-drop (omega arith) in
    let same : get_or (drop first cs) place None ≡ due_of cs (first + place) = get_or-drop first cs place None in
    e ∙ ap (λ v. v ++ (if test then slice_index countdown place ∷ [] else [])) h
    ∙ ap (λ q. map (slice_index countdown) (ticking_from 0 now (take place (drop first cs))) ++ (if q then slice_index countdown place ∷ [] else [])) (t ∙ ap (ticks now) (sym same))
    ∙ sym (ticked-more now (slice_index countdown) (drop first cs) place inside)
