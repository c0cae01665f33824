-- What a call keeps: the budgets, the memory and the area.
use Rattle.std.specs.Prelude.{◌≡◌, ℕ, ◌+◌, ◌-◌, ◌≤◌, All, Bool, true, false, List, [], ◌∷◌, ◌++◌, length, take, drop, nat_le, Result, Ok, Err, refl}
use Rattle.std.proofs.Common.{arith, ap, sym, ◌∙◌}
use Rattle.std.proofs.lemmas.Bool.{leb-true}
use Rattle.std.proofs.lemmas.List.{length-append, length-take, length-drop}
use Rattle.std.proofs.lemmas.List.Elements.{All-nil, All-cons, All-append}
use Rattle.fmi_states.specs.declared.status.FmiStatus.{FmiStatus}
use Rattle.fmi_states.specs.declared.call.Call.{Call}
use Rattle.fmi_states.specs.declared.call.Call.TheVariants as call
use Rattle.fmi_states.specs.declared.reply.Reply.{Reply}
use Rattle.fmi_states.specs.declared.reply.Reply.TheVariants as reply
use Rattle.fmi_states.specs.declared.reply.Broken.{Broken}
use Rattle.wasm_types.specs.Modules.{NestedModule}
use Rattle.code_specs.specs.Values.{Value}
use Rattle.code_specs.specs.Stores.{replaced_at}
use Rattle.code_specs.specs.Execution.{Answer, Returned, Trapped, Spent, Stuck, answer_of}
use Rattle.code_laws.specs.Kept.{LeavesBytes}
use Rattle.code_laws.proofs.Growth.{never_shrinks}
use Rattle.binding_specs.specs.declared.function.Function.TheVariants as function
use Rattle.binding_specs.specs.Guests.{Guest, bytes_place, area_size}
use Rattle.binding_specs.specs.Pieces.{Work, outcome, run, writes}
use Rattle.binding_specs.specs.Exchanges.{calls, the_number, is_fine, place_area, asks_area, prepares, status_by, reply_if, exchange}
use Rattle.binding_specs.specs.Answers.{work_of, reply_of, answer, used_by}
use Rattle.binding_laws.specs.Words.{HasArea, is_instantiation}
use Rattle.binding_laws.proofs.Kept.{Keeps, exchange_keeps}
use Rattle.binding_laws.proofs.Follows.{Leads, follow_leads, follow_knowing, tested}

-- ---- budgets

abbrev Within : (budget : ℕ) → Work → Type 0
Within budget w = All (λ n. n ≤ budget) w.used

one_more : (budget left : ℕ) (used : List ℕ) → All (λ n. n ≤ budget) used → All (λ n. n ≤ budget) (used ++ (budget - left) ∷ [])
one_more budget left used all =
    All-append (λ n. n ≤ budget) used ((budget - left) ∷ []) all
    (All-cons (λ n. n ≤ budget) (budget - left) [] (omega arith) (All-nil (λ n. n ≤ budget)))

outcome_within : (budget : ℕ) (a : Answer Value) (w : Work) → Within budget w → Within budget (outcome budget a w).1
outcome_within budget (Returned values s left) w all = one_more budget left w.used all
outcome_within budget (Trapped kind s left) w all = one_more budget left w.used all
outcome_within budget (Spent s) w all = one_more budget 0 w.used all
outcome_within budget Stuck w all = one_more budget 0 w.used all

budgets_keep : (g : Guest) (c : Call) → Keeps g c (Within g.budget)
budgets_keep g c = record {
  by_run = λ index arguments w all. outcome_within g.budget (answer_of g.code index arguments w.store g.budget) w all;
  by_write = λ bytes w all. tested (λ (p : Result (Unit {0}) Broken × Work). Within g.budget p.1) (nat_le (g.area + bytes_place + length bytes) (length w.store.bytes)) _ _ (λ e. all) (λ e. all);
  by_place = λ e address w all. tested (λ (p : Result (Unit {0}) Broken × Work). Within g.budget p.1) (nat_le (address + area_size g.description) (length w.store.bytes)) _ _ (λ e. all) (λ e. all);
}

pub each_within : (g : Guest) (c : Call) → All (λ n. n ≤ g.budget) (used_by g c)
unfolding used_by
each_within g c = exchange_keeps g c (Within g.budget) (budgets_keep g c) (work_of g) (All-nil (λ n. n ≤ g.budget))

-- ---- memory

abbrev HasBytes : (count : ℕ) → Work → Type 0
HasBytes count w = count ≤ length w.store.bytes

outcome_leaves : (budget : ℕ) (a : Answer Value) (w : Work) → LeavesBytes (length w.store.bytes) a → length w.store.bytes ≤ length (outcome budget a w).1.store.bytes
outcome_leaves budget (Returned values s left) w h = h
outcome_leaves budget (Trapped kind s left) w h = h
outcome_leaves budget (Spent s) w h = h
outcome_leaves budget Stuck w h = omega arith

run_leaves : (m : NestedModule) (budget index : ℕ) (arguments : List ℕ) (w : Work) → length w.store.bytes ≤ length (run m budget index arguments w).1.store.bytes
run_leaves m budget index arguments w =
    outcome_leaves budget (answer_of m index arguments w.store budget) w (never_shrinks m index arguments w.store budget)

as_many : (bytes new : List ℕ) (address : ℕ) → address + length new ≤ length bytes → length (replaced_at bytes address new) ≡ length bytes
as_many bytes new address fits =
    omega (arith, length-append (take address bytes) (new ++ drop (address + length new) bytes), length-append new (drop (address + length new) bytes), length-take address bytes, length-drop (address + length new) bytes)

write_leaves : (address : ℕ) (bytes : List ℕ) (w : Work) → length w.store.bytes ≤ length (writes address bytes w).1.store.bytes
write_leaves address bytes w =
    tested (λ (p : Result (Unit {0}) Broken × Work). length w.store.bytes ≤ length p.1.store.bytes) (nat_le (address + length bytes) (length w.store.bytes)) _ _
    (λ e. omega (arith, as_many w.store.bytes bytes address (leb-true (address + length bytes) (length w.store.bytes) e)))
    (λ e. omega arith)

bytes_keep : (g : Guest) (c : Call) (count : ℕ) → Keeps g c (HasBytes count)
bytes_keep g c count = record {
  by_run = λ index arguments w h. omega (arith, h, run_leaves g.code g.budget index arguments w);
  by_write = λ bytes w h. omega (arith, h, write_leaves (g.area + bytes_place) bytes w);
  by_place = λ e address w h. tested (λ (p : Result (Unit {0}) Broken × Work). HasBytes count p.1) (nat_le (address + area_size g.description) (length w.store.bytes)) _ _ (λ e. h) (λ e. h);
}

pub no_fewer_bytes : (g : Guest) (c : Call) → length g.store.bytes ≤ length (answer g c).1.store.bytes
unfolding answer
no_fewer_bytes g c = exchange_keeps g c (HasBytes (length g.store.bytes)) (bytes_keep g c (length g.store.bytes)) (work_of g) (omega arith)

-- ---- the area

abbrev AreaWithin : (size : ℕ) → Work → Type 0
AreaWithin size w = w.area + size ≤ length w.store.bytes

outcome_area : (budget : ℕ) (a : Answer Value) (w : Work) → (outcome budget a w).1.area ≡ w.area
outcome_area budget (Returned values s left) w = refl
outcome_area budget (Trapped kind s left) w = refl
outcome_area budget (Spent s) w = refl
outcome_area budget Stuck w = refl

write_area : (address : ℕ) (bytes : List ℕ) (w : Work) → (writes address bytes w).1.area ≡ w.area
write_area address bytes w =
    tested (λ (p : Result (Unit {0}) Broken × Work). p.1.area ≡ w.area) (nat_le (address + length bytes) (length w.store.bytes)) _ _ (λ e. refl) (λ e. refl)

area_keeps : (g : Guest) (c : Call) → Keeps g c (AreaWithin (area_size g.description))
area_keeps g c = record {
  by_run = λ index arguments w h. omega (arith, h, run_leaves g.code g.budget index arguments w, outcome_area g.budget (answer_of g.code index arguments w.store g.budget) w);
  by_write = λ bytes w h. omega (arith, h, write_leaves (g.area + bytes_place) bytes w, write_area (g.area + bytes_place) bytes w);
  by_place = λ e address w h.
      tested (λ (p : Result (Unit {0}) Broken × Work). AreaWithin (area_size g.description) p.1) (nat_le (address + area_size g.description) (length w.store.bytes)) _ _
      (λ e. leb-true (address + area_size g.description) (length w.store.bytes) e) (λ e. h);
}

pub area_stays : (g : Guest) (c : Call) → HasArea g → HasArea (answer g c).1
unfolding answer
area_stays g c h = exchange_keeps g c (AreaWithin (area_size g.description)) (area_keeps g c) (work_of g) h

-- but by an instantiation, the area doesn't move
abbrev AreaAt : (address : ℕ) → Work → Type 0
AreaAt address w = w.area ≡ address

area_stands : (g : Guest) (c : Call) → is_instantiation c ≡ false → Keeps g c (AreaAt g.area)
area_stands g c other = record {
  by_run = λ index arguments w h. outcome_area g.budget (answer_of g.code index arguments w.store g.budget) w ∙ h;
  by_write = λ bytes w h. write_area (g.area + bytes_place) bytes w ∙ h;
  by_place = λ e address w h. let both : true ≡ false = sym e ∙ other in absurd (cc both);
}

pub area_is_left : (g : Guest) (c : Call) → is_instantiation c ≡ false → (answer g c).1.area ≡ g.area
unfolding answer
area_is_left g c other = exchange_keeps g c (AreaAt g.area) (area_stands g c other) (work_of g) refl

place_within : (size address : ℕ) (w : Work) → Leads (λ (placed : Unit {0}) w. AreaWithin size w) (place_area size address w).0 (place_area size address w).1
place_within size address w =
    tested (λ (p : Result (Unit {0}) Broken × Work). Leads (λ (placed : Unit {0}) w. AreaWithin size w) p.0 p.1) (nat_le (address + size) (length w.store.bytes)) _ _
    (λ e. leb-true (address + size) (length w.store.bytes) e) (λ e. tt)

asked_within : (g : Guest) (w : Work) → Leads (λ (placed : Unit {0}) w. AreaWithin (area_size g.description) w) (asks_area g w).0 (asks_area g w).1
asked_within g w =
    let size = area_size g.description in
    let after = calls g function.Area (size ∷ []) w in
    follow_leads (λ (placed : Unit {0}) w. AreaWithin size w) after.0 _ after.1 (λ numbers.
    let read = the_number numbers after.1 in
    follow_leads (λ (placed : Unit {0}) w. AreaWithin size w) read.0 _ read.1 (λ address. place_within size address read.1))

abbrev Placed : (size : ℕ) → Reply → Work → Type 0
Placed size r w = (status : FmiStatus) → is_fine status ≡ true → r ≡ reply.Plain status → AreaWithin size w

same_status : (one two : FmiStatus) → reply.Plain one ≡ reply.Plain two → one ≡ two
same_status one two e = cc

instance_placed : (fine : Bool) (g : Guest) (status : FmiStatus) (w : Work) → is_fine status ≡ fine
    → Leads (Placed (area_size g.description)) (reply_if fine g call.Instantiate status w).0 (reply_if fine g call.Instantiate status w).1
instance_placed true g status w is =
    follow_knowing (λ (placed : Unit {0}) w. AreaWithin (area_size g.description) w) (Placed (area_size g.description)) (asks_area g w).0 (λ placed w. (Ok (reply.Plain status), w)) (asks_area g w).1
    (asked_within g w) (λ placed h other fine e. h)
instance_placed false g status w is = λ other fine e.
    let same : status ≡ other = same_status status other e in
    let both : true ≡ false = sym fine ∙ (ap is_fine (sym same) ∙ is) in
    absurd (cc both)

exchange_placed : (g : Guest) (w : Work) → Leads (Placed (area_size g.description)) (exchange g call.Instantiate w).0 (exchange g call.Instantiate w).1
unfolding exchange
exchange_placed g w =
    let prepared = prepares g call.Instantiate w in
    follow_leads (Placed (area_size g.description)) prepared.0 _ prepared.1 (λ x.
    let after = status_by g call.Instantiate prepared.1 in
    follow_leads (Placed (area_size g.description)) after.0 (λ status. reply_if (is_fine status) g call.Instantiate status) after.1 (λ status.
    instance_placed (is_fine status) g status after.1 refl))

replied_placed : (size : ℕ) (r : Result Reply Broken) (w : Work) → Leads (Placed size) r w → (status : FmiStatus) → is_fine status ≡ true → reply_of r ≡ reply.Plain status → AreaWithin size w
replied_placed size (Ok r) w h status fine e = h status fine e
replied_placed size (Err why) w h status fine e = absurd (cc e)

pub area_is_placed : (g : Guest) (status : FmiStatus) → is_fine status ≡ true → (answer g call.Instantiate).0 ≡ reply.Plain status → HasArea (answer g call.Instantiate).1
unfolding answer
area_is_placed g status fine e =
    replied_placed (area_size g.description) (exchange g call.Instantiate (work_of g)).0 (exchange g call.Instantiate (work_of g)).1 (exchange_placed g (work_of g)) status fine e

-- ---- what no call changes

pub same_code : (g : Guest) (c : Call) → (answer g c).1.code ≡ g.code
unfolding answer
same_code g c = refl

pub same_description : (g : Guest) (c : Call) → (answer g c).1.description ≡ g.description
unfolding answer
same_description g c = refl

pub same_budget : (g : Guest) (c : Call) → (answer g c).1.budget ≡ g.budget
unfolding answer
same_budget g c = refl
