-- What an exchange keeps: whatever its runs, its writing and its placing of the area keep.
use Rattle.std.specs.Prelude.{◌≡◌, ℕ, ◌+◌, ◌%◌, Bool, true, false, List, [], ◌∷◌, map, option_map, Option, None, Some, slice_get, nat_le, refl}
use Rattle.fmi_states.specs.declared.status.FmiStatus.{FmiStatus}
use Rattle.fmi_states.specs.declared.call.Call.{Call}
use Rattle.fmi_states.specs.declared.call.Call.TheVariants as call
use Rattle.fmi_states.specs.declared.reply.Qualifier.TheVariants.{NotYetKnown, Unchanged, Changed}
use Rattle.fmi_states.specs.declared.reply.Broken.TheVariants.{Trap, BadReply, BadBuffer}
use Rattle.code_specs.specs.Stores.{bytes_at}
use Rattle.binding_specs.specs.declared.function.Function.{Function}
use Rattle.binding_specs.specs.declared.function.Function.TheVariants as function
use Rattle.binding_specs.specs.Exports.{index_of}
use Rattle.binding_specs.specs.Guests.{Guest, most_bytes, bytes_place, area_size}
use Rattle.binding_specs.specs.Pieces.{Work, wanted, run, writes}
use Rattle.binding_specs.specs.Exchanges.{calls, the_number, statuses, status_of, is_fine, bytes_in_area, number_in_area, flag_in_area, qualifier_in_area, bytes_if, binary_in_area, place_area, asks_area, full_reply, reply_if, starts, prepares, function_of, arguments_of, status_by, exchange}
use Rattle.binding_laws.specs.Words.{is_instantiation}
use Rattle.binding_laws.proofs.Follows.{follow_keeps, wanted_keeps}

-- ---- pieces that run nothing keep whatever holds of the work

module _ (I : Work → Type 0) where
  pub number_keeps : (numbers : List ℕ) (w : Work) → I w → I (the_number numbers w).1
  number_keeps [] w i = i
  number_keeps (n ∷ []) w i = i
  number_keeps (n ∷ m ∷ ns) w i = i

  bytes_keep : (place count : ℕ) (w : Work) → I w → I (bytes_in_area place count w).1
  bytes_keep place count w i = wanted_keeps I BadBuffer (option_map (map (λ b. b % 256)) (bytes_at w.store.bytes (w.area + place) count)) w i

  area_number_keeps : (place count : ℕ) (w : Work) → I w → I (number_in_area place count w).1
  area_number_keeps place count w i =
      let read = bytes_in_area place count w in
      let i' : I read.1 = bytes_keep place count w i in
      follow_keeps I read.0 _ read.1 i' (λ bytes. i')

  flag_keeps : (place : ℕ) (w : Work) → I w → I (flag_in_area place w).1
  flag_keeps place w i =
      let read = number_in_area place 4 w in
      let i' : I read.1 = area_number_keeps place 4 w i in
      follow_keeps I read.0 _ read.1 i' (λ n. wanted_keeps I BadReply (slice_get (false ∷ true ∷ []) n) read.1 i')

  qualifier_keeps : (place : ℕ) (w : Work) → I w → I (qualifier_in_area place w).1
  qualifier_keeps place w i =
      let read = number_in_area place 4 w in
      let i' : I read.1 = area_number_keeps place 4 w i in
      follow_keeps I read.0 _ read.1 i' (λ n. wanted_keeps I BadReply (slice_get (NotYetKnown ∷ Unchanged ∷ Changed ∷ []) n) read.1 i')

  if_keeps : (fits : Bool) (count : ℕ) (w : Work) → I w → I (bytes_if fits count w).1
  if_keeps true count w i = bytes_keep bytes_place count w i
  if_keeps false count w i = i

  binary_keeps : (most : ℕ) (w : Work) → I w → I (binary_in_area most w).1
  binary_keeps most w i =
      let read = number_in_area 0 4 w in
      let i' : I read.1 = area_number_keeps 0 4 w i in
      follow_keeps I read.0 _ read.1 i' (λ count. if_keeps (nat_le count most) count read.1 i')

  pub full_keeps : (g : Guest) (c : Call) (status : FmiStatus) (w : Work) → (is_instantiation c ≡ true → I w → I (asks_area g w).1)
      → I w → I (full_reply g c status w).1
  full_keeps g call.Instantiate status w area i =
      let i' : I (asks_area g w).1 = area refl i in
      follow_keeps I (asks_area g w).0 _ (asks_area g w).1 i' (λ placed. i')
  full_keeps g (call.GetClock reference) status w area i =
      let i' : I (flag_in_area 0 w).1 = flag_keeps 0 w i in
      follow_keeps I (flag_in_area 0 w).0 _ (flag_in_area 0 w).1 i' (λ ticks. i')
  full_keeps g (call.GetBinary reference) status w area i =
      let most = most_bytes g.description.terminals reference in
      let i' : I (binary_in_area most w).1 = binary_keeps most w i in
      follow_keeps I (binary_in_area most w).0 _ (binary_in_area most w).1 i' (λ bytes. i')
  full_keeps g call.Update status w area i =
      let one = flag_in_area 0 w in
      let i' : I one.1 = flag_keeps 0 w i in
      follow_keeps I one.0 _ one.1 i' (λ another.
      let two = flag_in_area 4 one.1 in
      let i'' : I two.1 = flag_keeps 4 one.1 i' in
      follow_keeps I two.0 _ two.1 i'' (λ end. i''))
  full_keeps g (call.GetInterval reference) status w area i =
      let one = number_in_area 0 8 w in
      let i1 : I one.1 = area_number_keeps 0 8 w i in
      follow_keeps I one.0 _ one.1 i1 (λ counter.
      let two = number_in_area 8 8 one.1 in
      let i2 : I two.1 = area_number_keeps 8 8 one.1 i1 in
      follow_keeps I two.0 _ two.1 i2 (λ resolution.
      let three = qualifier_in_area 16 two.1 in
      let i3 : I three.1 = qualifier_keeps 16 two.1 i2 in
      follow_keeps I three.0 _ three.1 i3 (λ qualifier. i3)))
  full_keeps g call.EnterInit status w area i = i
  full_keeps g call.ExitInit status w area i = i
  full_keeps g call.EnterEvent status w area i = i
  full_keeps g call.EnterStep status w area i = i
  full_keeps g (call.SetClock reference) status w area i = i
  full_keeps g (call.SetBinary reference bytes) status w area i = i
  full_keeps g (call.DoStep from size) status w area i = i
  full_keeps g call.Terminate status w area i = i
  full_keeps g call.Free status w area i = i

  pub reply_keeps : (fine : Bool) (g : Guest) (c : Call) (status : FmiStatus) (w : Work) → (is_instantiation c ≡ true → I w → I (asks_area g w).1)
      → I w → I (reply_if fine g c status w).1
  reply_keeps true g c status w area i = full_keeps g c status w area i
  reply_keeps false g c status w area i = i

-- ---- and all do what their runs, their writing and their placing of the area keep

pub record Keeps (g : Guest) (c : Call) (I : Work → Type 0) : Type 0 where
  pub by_run : (index : ℕ) (arguments : List ℕ) (w : Work) → I w → I (run g.code g.budget index arguments w).1
  pub by_write : (bytes : List ℕ) (w : Work) → I w → I (writes (g.area + bytes_place) bytes w).1
  pub by_place : is_instantiation c ≡ true → (address : ℕ) (w : Work) → I w → I (place_area (area_size g.description) address w).1

module _ (g : Guest) (c : Call) (I : Work → Type 0) (k : Keeps g c I) where
  calls_keep : (f : Function) (arguments : List ℕ) (w : Work) → I w → I (calls g f arguments w).1
  calls_keep f arguments w i =
      let i' : I (wanted Trap (index_of g.code f) w).1 = wanted_keeps I Trap (index_of g.code f) w i in
      follow_keeps I (wanted Trap (index_of g.code f) w).0 (λ index. run g.code g.budget index arguments) (wanted Trap (index_of g.code f) w).1 i' (λ index.
      k.by_run index arguments (wanted Trap (index_of g.code f) w).1 i')

  status_keeps : (f : Function) (arguments : List ℕ) (w : Work) → I w → I (status_of g f arguments w).1
  status_keeps f arguments w i =
      let after = calls g f arguments w in
      let i' : I after.1 = calls_keep f arguments w i in
      follow_keeps I after.0 _ after.1 i' (λ numbers.
      let read = the_number numbers after.1 in
      let i'' : I read.1 = number_keeps I numbers after.1 i' in
      follow_keeps I read.0 _ read.1 i'' (λ n. wanted_keeps I BadReply (slice_get statuses n) read.1 i''))

  area_keeps : is_instantiation c ≡ true → (w : Work) → I w → I (asks_area g w).1
  area_keeps e w i =
      let size = area_size g.description in
      let after = calls g function.Area (size ∷ []) w in
      let i' : I after.1 = calls_keep function.Area (size ∷ []) w i in
      follow_keeps I after.0 _ after.1 i' (λ numbers.
      let read = the_number numbers after.1 in
      let i'' : I read.1 = number_keeps I numbers after.1 i' in
      follow_keeps I read.0 _ read.1 i'' (λ address. k.by_place e address read.1 i''))

  starts_keep : (start : Option ℕ) (w : Work) → I w → I (starts g start w).1
  starts_keep None w i = i
  starts_keep (Some index) w i =
      let after = run g.code g.budget index [] w in
      let i' : I after.1 = k.by_run index [] w i in
      follow_keeps I after.0 _ after.1 i' (λ numbers. i')

  prepares_keep : (c' : Call) (w : Work) → I w → I (prepares g c' w).1
  prepares_keep call.Instantiate w i = starts_keep g.code.start w i
  prepares_keep (call.SetBinary reference bytes) w i = k.by_write bytes w i
  prepares_keep c w i = i

  by_keeps : (c' : Call) (w : Work) → I w → I (status_by g c' w).1
  by_keeps call.Free w i =
      let after = calls g function.Free [] w in
      let i' : I after.1 = calls_keep function.Free [] w i in
      follow_keeps I after.0 _ after.1 i' (λ numbers. i')
  by_keeps c w i = status_keeps (function_of c) (arguments_of c) w i

  pub exchange_keeps : (w : Work) → I w → I (exchange g c w).1
  unfolding exchange
  exchange_keeps w i =
      let prepared = prepares g c w in
      let i' : I prepared.1 = prepares_keep c w i in
      follow_keeps I prepared.0 _ prepared.1 i' (λ x.
      let after = status_by g c prepared.1 in
      let i'' : I after.1 = by_keeps c prepared.1 i' in
      follow_keeps I after.0 _ after.1 i'' (λ status. reply_keeps I (is_fine status) g c status after.1 (λ e. area_keeps e after.1) i''))
