-- How many functions a call runs.
use Rattle.std.specs.Prelude.{ℕ, ◌+◌, ◌*◌, ◌-◌, ◌≤◌, Bool, true, false, List, [], ◌∷◌, Option, None, Some, length, nat_le, sum, slice_get, Result}
use Rattle.std.proofs.Common.{arith}
use Rattle.std.proofs.lemmas.List.{length-append}
use Rattle.std.proofs.lemmas.List.Sums.{sum_by-le}
use Rattle.std.proofs.lemmas.Nat.{mul-le}
use Rattle.fmi_states.specs.declared.status.FmiStatus.{FmiStatus}
use Rattle.fmi_states.specs.declared.call.Call.{Call}
use Rattle.fmi_states.specs.declared.call.Call.TheVariants as call
use Rattle.fmi_states.specs.declared.reply.Broken.{Broken}
use Rattle.fmi_states.specs.declared.reply.Broken.TheVariants.{Trap, BadReply}
use Rattle.wasm_types.specs.Modules.{NestedModule}
use Rattle.code_specs.specs.Values.{Value}
use Rattle.code_specs.specs.Execution.{Answer, Returned, Trapped, Spent, Stuck, answer_of}
use Rattle.binding_specs.specs.declared.function.Function.{Function}
use Rattle.binding_specs.specs.declared.function.Function.TheVariants as function
use Rattle.binding_specs.specs.Exports.{index_of}
use Rattle.binding_specs.specs.Guests.{Guest, bytes_place, area_size}
use Rattle.binding_specs.specs.Pieces.{Work, wanted, outcome, run}
use Rattle.binding_specs.specs.Exchanges.{calls, the_number, statuses, status_of, is_fine, asks_area, reply_if, starts, prepares, function_of, arguments_of, status_by, exchange}
use Rattle.binding_specs.specs.Answers.{work_of, used_by}
use Rattle.binding_laws.specs.Words.{most_functions}
use Rattle.binding_laws.proofs.Follows.{follow_keeps, wanted_keeps, tested}
use Rattle.binding_laws.proofs.Steady.{each_within}
use Rattle.binding_laws.proofs.Kept.{number_keeps, reply_keeps}

abbrev AtMost : ℕ → Work → Type 0
AtMost n w = length w.used ≤ n

outcome_counts : (n budget : ℕ) (a : Answer Value) (w : Work) → AtMost n w → AtMost (n + 1) (outcome budget a w).1
outcome_counts n budget (Returned values s left) w h = omega (arith, h, length-append w.used ((budget - left) ∷ []))
outcome_counts n budget (Trapped kind s left) w h = omega (arith, h, length-append w.used ((budget - left) ∷ []))
outcome_counts n budget (Spent s) w h = omega (arith, h, length-append w.used ((budget - 0) ∷ []))
outcome_counts n budget Stuck w h = omega (arith, h, length-append w.used ((budget - 0) ∷ []))

run_counts : (m : NestedModule) (n budget index : ℕ) (arguments : List ℕ) (w : Work) → AtMost n w → AtMost (n + 1) (run m budget index arguments w).1
run_counts m n budget index arguments w h = outcome_counts n budget (answer_of m index arguments w.store budget) w h

more : (n : ℕ) (w : Work) → AtMost n w → AtMost (n + 1) w
more n w h = omega (arith, h)

calls_count : (g : Guest) (f : Function) (arguments : List ℕ) (n : ℕ) (w : Work) → AtMost n w → AtMost (n + 1) (calls g f arguments w).1
calls_count g f arguments n w h =
    let found = wanted Trap (index_of g.code f) w in
    let h' : AtMost n found.1 = wanted_keeps (AtMost n) Trap (index_of g.code f) w h in
    follow_keeps (AtMost (n + 1)) found.0 (λ index. run g.code g.budget index arguments) found.1 (more n found.1 h') (λ index.
    run_counts g.code n g.budget index arguments found.1 h')

status_counts : (g : Guest) (f : Function) (arguments : List ℕ) (n : ℕ) (w : Work) → AtMost n w → AtMost (n + 1) (status_of g f arguments w).1
status_counts g f arguments n w h =
    let after = calls g f arguments w in
    let h' : AtMost (n + 1) after.1 = calls_count g f arguments n w h in
    follow_keeps (AtMost (n + 1)) after.0 _ after.1 h' (λ numbers.
    let read = the_number numbers after.1 in
    let h'' : AtMost (n + 1) read.1 = number_keeps (AtMost (n + 1)) numbers after.1 h' in
    follow_keeps (AtMost (n + 1)) read.0 _ read.1 h'' (λ k. wanted_keeps (AtMost (n + 1)) BadReply (slice_get statuses k) read.1 h''))

area_counts : (g : Guest) (n : ℕ) (w : Work) → AtMost n w → AtMost (n + 1) (asks_area g w).1
area_counts g n w h =
    let size = area_size g.description in
    let after = calls g function.Area (size ∷ []) w in
    let h' : AtMost (n + 1) after.1 = calls_count g function.Area (size ∷ []) n w h in
    follow_keeps (AtMost (n + 1)) after.0 _ after.1 h' (λ numbers.
    let read = the_number numbers after.1 in
    let h'' : AtMost (n + 1) read.1 = number_keeps (AtMost (n + 1)) numbers after.1 h' in
    follow_keeps (AtMost (n + 1)) read.0 _ read.1 h'' (λ address.
    tested (λ (p : Result (Unit {0}) Broken × Work). AtMost (n + 1) p.1) (nat_le (address + size) (length read.1.store.bytes)) _ _ (λ e. h'') (λ e. h'')))

starts_count : (g : Guest) (start : Option ℕ) (n : ℕ) (w : Work) → AtMost n w → AtMost (n + 1) (starts g start w).1
starts_count g None n w h = more n w h
starts_count g (Some index) n w h =
    let after = run g.code g.budget index [] w in
    let h' : AtMost (n + 1) after.1 = run_counts g.code n g.budget index [] w h in
    follow_keeps (AtMost (n + 1)) after.0 _ after.1 h' (λ numbers. h')

-- before the call's function, and behind it
abbrev early : Call → ℕ
early call.Instantiate = 1
early other = 0

prepares_count : (g : Guest) (c : Call) (w : Work) → AtMost 0 w → AtMost (early c) (prepares g c w).1
prepares_count g call.Instantiate w h = starts_count g g.code.start 0 w h
prepares_count g (call.SetBinary reference bytes) w h =
    tested (λ (p : Result (Unit {0}) Broken × Work). AtMost 0 p.1) (nat_le (g.area + bytes_place + length bytes) (length w.store.bytes)) _ _ (λ e. h) (λ e. h)
prepares_count g c w h = h

by_counts : (g : Guest) (c : Call) (n : ℕ) (w : Work) → AtMost n w → AtMost (n + 1) (status_by g c w).1
by_counts g call.Free n w h =
    let after = calls g function.Free [] w in
    let h' : AtMost (n + 1) after.1 = calls_count g function.Free [] n w h in
    follow_keeps (AtMost (n + 1)) after.0 _ after.1 h' (λ numbers. h')
by_counts g c n w h = status_counts g (function_of c) (arguments_of c) n w h

reply_counts : (fine : Bool) (g : Guest) (c : Call) (status : FmiStatus) (w : Work) → AtMost (early c + 1) w → AtMost (most_functions c) (reply_if fine g c status w).1
reply_counts true g call.Instantiate status w h =
    let after = asks_area g w in
    let h' : AtMost 3 after.1 = area_counts g 2 w h in
    follow_keeps (AtMost 3) after.0 _ after.1 h' (λ placed. h')
reply_counts false g call.Instantiate status w h = more 2 w h
reply_counts fine g c status w h = reply_keeps (AtMost 1) fine g c status w (λ e. absurd (cc e)) h

enough : (c : Call) → early c + 1 ≤ most_functions c
enough call.Instantiate = omega arith
enough c = omega arith

few : (g : Guest) (c : Call) (w : Work) → AtMost 0 w → AtMost (most_functions c) (exchange g c w).1
unfolding exchange
few g c w h =
    let prepared = prepares g c w in
    let h' : AtMost (early c) prepared.1 = prepares_count g c w h in
    follow_keeps (AtMost (most_functions c)) prepared.0 _ prepared.1 (omega (arith, h', enough c)) (λ x.
    let after = status_by g c prepared.1 in
    let h'' : AtMost (early c + 1) after.1 = by_counts g c (early c) prepared.1 h' in
    follow_keeps (AtMost (most_functions c)) after.0 _ after.1 (omega (arith, h'', enough c)) (λ status.
    reply_counts (is_fine status) g c status after.1 h''))

pub few_functions : (g : Guest) (c : Call) → length (used_by g c) ≤ most_functions c
unfolding used_by
few_functions g c = few g c (work_of g) (omega arith)

-- all together, where each uses a whole budget at most
pub all_within : (g : Guest) (c : Call) → sum (used_by g c) ≤ most_functions c * g.budget
all_within g c =
    let used : sum (used_by g c) ≤ length (used_by g c) * g.budget = sum_by-le (λ n. n) g.budget (used_by g c) (each_within g c) in
    let most : length (used_by g c) * g.budget ≤ most_functions c * g.budget
    = mul-le (length (used_by g c)) g.budget (most_functions c) g.budget (few_functions g c) (omega arith) in
    omega (arith, used, most)
