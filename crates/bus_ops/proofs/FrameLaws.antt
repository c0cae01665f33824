-- Transmits: the frame that is taken from fields is spelled by them, and a frame that is spelled is taken again.
use Rattle.std.proofs.Common.{◌≡◌, ℕ, suc, ◌^◌, ◌<◌, ◌≤◌, Bool, true, false, cond, ◌&&◌, not, List, [], ◌∷◌, ◌++◌, length, Option, Some, None, refl, sym, ap, subst, ◌∙◌, arith}
use Rattle.std.specs.Prelude.{option_map}
use Rattle.std.specs.Int.{w32, to_le_bytes}
use Rattle.std.proofs.lemmas.Bool.{false≢true}
use Rattle.std.proofs.lemmas.Bool.Decides.{nat_tests}
use Rattle.frame_specs.specs.Frame.{Frame, Kind, Data, Remote, Fd, is_well_formed, is_fd, identifier_fits, length_fits, remote_fits}
use Rattle.frame_specs.specs.Wire.{remote_bit}
use Rattle.operation_specs.specs.Operation.{Operation, Transmit, FdTransmit, IsOperation}
use Rattle.operation_specs.specs.Spelling.{code_of, fields_of, flag, counted, switch_of, indicator_of}
use Rattle.bus_ops.specs.Fields.{◌>>=◌, number_at, counted_at, flag_at, classical_behind, fd_behind, checked, classical_at, fd_at, transmit_at, fd_transmit_at}
use Rattle.bus_ops.proofs.FieldLaws.{IsBytes, Begins, some_is, bind_some, bind_at, map_some, guard_some, number_takes, number_again, counted_takes, counted_again, flag_takes, flag_again}

-- these fields, behind this code, spell this operation
pub record Spells (code : ℕ) (fields : List ℕ) (op : Operation) : Type 0 where
  pub is_one : IsOperation op
  pub code_is : code_of op ≡ code
  pub fields_are : fields_of op ≡ fields

abbrev frame_kind : Bool → Kind
frame_kind remote = cond remote Remote Data

abbrev classical : ℕ → Bool → Bool → List ℕ → Frame
classical id ext remote bytes = record { id = id; ext = ext; kind = frame_kind remote; bytes = bytes }

abbrev flexible : ℕ → Bool → Bool → Bool → List ℕ → Frame
flexible id ext brs esi bytes = record { id = id; ext = ext; kind = Fd brs esi; bytes = bytes }

-- what three steps gave, and what four gave
three_some : (o : Option Bool) (p : Option Bool) (q : Option (List ℕ)) (f : Bool → Bool → List ℕ → Frame) (y : Frame)
    → (o >>= λ a. p >>= λ b. q >>= λ c. Some (f a b c)) ≡ Some y
    → (a : Bool) × (b : Bool) × (c : List ℕ) × (o ≡ Some a) × (p ≡ Some b) × (q ≡ Some c) × (f a b c ≡ y)
three_some (Some a) (Some b) (Some c) f y e = (a, b, c, refl, refl, refl, some_is (f a b c) y e)
three_some (Some a) (Some b) None f y e = absurd cc
three_some (Some a) None q f y e = absurd cc
three_some None p q f y e = absurd cc

four_some : (o p r : Option Bool) (q : Option (List ℕ)) (f : Bool → Bool → Bool → List ℕ → Frame) (y : Frame)
    → (o >>= λ a. p >>= λ b. r >>= λ d. q >>= λ c. Some (f a b d c)) ≡ Some y
    → (a : Bool) × (b : Bool) × (d : Bool) × (c : List ℕ) × (o ≡ Some a) × (p ≡ Some b) × (r ≡ Some d) × (q ≡ Some c) × (f a b d c ≡ y)
four_some (Some a) (Some b) (Some d) (Some c) f y e = (a, b, d, c, refl, refl, refl, refl, some_is (f a b d c) y e)
four_some (Some a) (Some b) (Some d) None f y e = absurd cc
four_some (Some a) (Some b) None q f y e = absurd cc
four_some (Some a) None r q f y e = absurd cc
four_some None p r q f y e = absurd cc

-- a classical frame behind its identifier
record Classical (id : ℕ) (fields : List ℕ) (f : Frame) : Type 0 where
  id_is : f.id ≡ id
  kind_is : is_fd f.kind ≡ false
  rest_are : flag f.ext ∷ flag (remote_bit f.kind) ∷ counted f.bytes ≡ fields

classical_is : (id : ℕ) (ext remote : Bool) (bytes : List ℕ) (ide rtr : ℕ) (rest : List ℕ) → flag ext ≡ ide → flag remote ≡ rtr → counted bytes ≡ rest → Classical id (ide ∷ rtr ∷ rest) (classical id ext remote bytes)
classical_is id ext true bytes ide rtr rest a b c = record { id_is = refl; kind_is = refl; rest_are = cc }
classical_is id ext false bytes ide rtr rest a b c = record { id_is = refl; kind_is = refl; rest_are = cc }

classical_takes : (id : ℕ) (fields : List ℕ) (f : Frame) → IsBytes fields → classical_behind id fields ≡ Some f → Classical id fields f
unfolding classical_behind
classical_takes id [] f h e = absurd cc
classical_takes id (ide ∷ []) f h e = absurd cc
classical_takes id (ide ∷ rtr ∷ rest) f h e =
    let s = three_some (flag_at ide) (flag_at rtr) (counted_at rest) (classical id) f e in
    let c = counted_takes rest s.2 (λ i. h (suc (suc i))) s.5 in
    subst (λ (g : Frame). Classical id (ide ∷ rtr ∷ rest) g) s.6
    (classical_is id s.0 s.1 s.2 ide rtr rest (flag_takes ide s.0 s.3) (flag_takes rtr s.1 s.4) c.0)

-- an FD frame behind its identifier
record Flexible (id : ℕ) (fields : List ℕ) (f : Frame) : Type 0 where
  id_is : f.id ≡ id
  kind_is : is_fd f.kind ≡ true
  rest_are : flag f.ext ∷ flag (switch_of f.kind) ∷ flag (indicator_of f.kind) ∷ counted f.bytes ≡ fields

fd_takes : (id : ℕ) (fields : List ℕ) (f : Frame) → IsBytes fields → fd_behind id fields ≡ Some f → Flexible id fields f
unfolding fd_behind
fd_takes id [] f h e = absurd cc
fd_takes id (ide ∷ []) f h e = absurd cc
fd_takes id (ide ∷ switch ∷ []) f h e = absurd cc
fd_takes id (ide ∷ switch ∷ indicator ∷ rest) f h e =
    let s = four_some (flag_at ide) (flag_at switch) (flag_at indicator) (counted_at rest) (flexible id) f e in
    let c = counted_takes rest s.3 (λ i. h (suc (suc (suc i)))) s.7 in
    let x = flag_takes ide s.0 s.4 in
    let y = flag_takes switch s.1 s.5 in
    let z = flag_takes indicator s.2 s.6 in
    let w = c.0 in
    subst (λ (g : Frame). Flexible id (ide ∷ switch ∷ indicator ∷ rest) g) s.8 (record { id_is = refl; kind_is = refl; rest_are = cc })

checked_takes : (f g : Frame) → checked f ≡ Some g → (is_well_formed f ≡ true) × (f ≡ g)
unfolding checked
checked_takes f g e = guard_some (is_well_formed f) f g e

not_fd : (k : Kind) → is_fd k ≡ false → not (is_fd k) ≡ true
not_fd k h = rw h refl

transmit_spells : (fields : List ℕ) (id : ℕ) (rest : List ℕ) (f : Frame) → Begins fields id rest → Classical id rest f → is_well_formed f ≡ true → Spells 0x10 fields (Transmit f)
transmit_spells fields id rest f b c w = record {
  is_one = record { valid = not_fd f.kind c.kind_is; in_range = w };
  code_is = refl;
  fields_are = ap (λ (n : ℕ). to_le_bytes w32 n ++ flag f.ext ∷ flag (remote_bit f.kind) ∷ counted f.bytes) c.id_is
      ∙ ap (λ (t : List ℕ). to_le_bytes w32 id ++ t) c.rest_are ∙ b.parts;
}

fd_spells : (fields : List ℕ) (id : ℕ) (rest : List ℕ) (f : Frame) → Begins fields id rest → Flexible id rest f → is_well_formed f ≡ true → Spells 0x11 fields (FdTransmit f)
fd_spells fields id rest f b c w = record {
  is_one = record { valid = c.kind_is; in_range = w };
  code_is = refl;
  fields_are = ap (λ (n : ℕ). to_le_bytes w32 n ++ flag f.ext ∷ flag (switch_of f.kind) ∷ flag (indicator_of f.kind) ∷ counted f.bytes) c.id_is
      ∙ ap (λ (t : List ℕ). to_le_bytes w32 id ++ t) c.rest_are ∙ b.parts;
}

pub transmit_takes : (fields : List ℕ) (op : Operation) → IsBytes fields → transmit_at fields ≡ Some op → Spells 0x10 fields op
unfolding transmit_at classical_at
transmit_takes fields op h e =
    let m = map_some Transmit (classical_at fields >>= checked) op e in
    let k = bind_some (classical_at fields) checked m.0 m.1 in
    let n = bind_some (number_at fields) (λ x. classical_behind x.0 x.1) k.0 k.1 in
    let b = number_takes fields n.0.0 n.0.1 h n.1 in
    let c = classical_takes n.0.0 n.0.1 k.0 b.fits n.2 in
    let w = checked_takes k.0 m.0 k.2 in
    subst (λ (o : Operation). Spells 0x10 fields o) (ap (λ (f : Frame). Transmit f) w.1 ∙ m.2) (transmit_spells fields n.0.0 n.0.1 k.0 b c w.0)

pub fd_transmit_takes : (fields : List ℕ) (op : Operation) → IsBytes fields → fd_transmit_at fields ≡ Some op → Spells 0x11 fields op
unfolding fd_transmit_at fd_at
fd_transmit_takes fields op h e =
    let m = map_some FdTransmit (fd_at fields >>= checked) op e in
    let k = bind_some (fd_at fields) checked m.0 m.1 in
    let n = bind_some (number_at fields) (λ x. fd_behind x.0 x.1) k.0 k.1 in
    let b = number_takes fields n.0.0 n.0.1 h n.1 in
    let c = fd_takes n.0.0 n.0.1 k.0 b.fits n.2 in
    let w = checked_takes k.0 m.0 k.2 in
    subst (λ (o : Operation). Spells 0x11 fields o) (ap (λ (f : Frame). FdTransmit f) w.1 ∙ m.2) (fd_spells fields n.0.0 n.0.1 k.0 b c w.0)

-- ---- again

id_below : (e : Bool) (n : ℕ) (a b : Bool) → (identifier_fits e n && a && b) ≡ true → n < 2 ^ 32
id_below true n a b h = grind (arith, nat_tests)
id_below false n a b h = grind (arith, nat_tests)

data_below : (k : Kind) (n : ℕ) (a b : Bool) → (a && b && length_fits k n) ≡ true → n ≤ 65535
data_below Data n a b h = grind (arith, nat_tests)
data_below Remote n a b h = grind (arith, nat_tests)
data_below (Fd brs esi) n a b h = grind (arith, nat_tests)

pub frame_ranges : (f : Frame) → is_well_formed f ≡ true → (f.id < 2 ^ 32) × (length f.bytes ≤ 65535)
frame_ranges f w =
    let i = id_below f.ext f.id (remote_fits f.kind (length f.bytes)) (length_fits f.kind (length f.bytes)) w in
    let d = data_below f.kind (length f.bytes) (identifier_fits f.ext f.id) (remote_fits f.kind (length f.bytes)) w in
    (i, d)

classical_again : (id : ℕ) (ext : Bool) (kind : Kind) (bytes : List ℕ) → is_fd kind ≡ false → length bytes ≤ 65535
    → classical_behind id (flag ext ∷ flag (remote_bit kind) ∷ counted bytes) ≡ Some (record { id = id; ext = ext; kind = kind; bytes = bytes })
unfolding classical_behind
classical_again id ext Data bytes k le =
    bind_at (flag_at (flag ext)) ext (λ e. flag_at 0 >>= λ r. counted_at (counted bytes) >>= λ b. Some (classical id e r b)) (flag_again ext)
    ∙ bind_at (counted_at (counted bytes)) bytes (λ b. Some (classical id ext false b)) (counted_again bytes le)
classical_again id ext Remote bytes k le =
    bind_at (flag_at (flag ext)) ext (λ e. flag_at 1 >>= λ r. counted_at (counted bytes) >>= λ b. Some (classical id e r b)) (flag_again ext)
    ∙ bind_at (counted_at (counted bytes)) bytes (λ b. Some (classical id ext true b)) (counted_again bytes le)
classical_again id ext (Fd brs esi) bytes k le = absurd (false≢true (sym k))

fd_again : (id : ℕ) (ext : Bool) (kind : Kind) (bytes : List ℕ) → is_fd kind ≡ true → length bytes ≤ 65535
    → fd_behind id (flag ext ∷ flag (switch_of kind) ∷ flag (indicator_of kind) ∷ counted bytes) ≡ Some (record { id = id; ext = ext; kind = kind; bytes = bytes })
unfolding fd_behind
fd_again id ext Data bytes k le = absurd (false≢true k)
fd_again id ext Remote bytes k le = absurd (false≢true k)
fd_again id ext (Fd brs esi) bytes k le =
    bind_at (flag_at (flag ext)) ext (λ e. flag_at (flag brs) >>= λ s. flag_at (flag esi) >>= λ i. counted_at (counted bytes) >>= λ b. Some (flexible id e s i b)) (flag_again ext)
    ∙ bind_at (flag_at (flag brs)) brs (λ s. flag_at (flag esi) >>= λ i. counted_at (counted bytes) >>= λ b. Some (flexible id ext s i b)) (flag_again brs)
    ∙ bind_at (flag_at (flag esi)) esi (λ i. counted_at (counted bytes) >>= λ b. Some (flexible id ext brs i b)) (flag_again esi)
    ∙ bind_at (counted_at (counted bytes)) bytes (λ b. Some (flexible id ext brs esi b)) (counted_again bytes le)

checked_again : (f : Frame) → is_well_formed f ≡ true → checked f ≡ Some f
unfolding checked
checked_again f w = rw w refl

not_true : (b : Bool) → not b ≡ true → b ≡ false
not_true true h = absurd (false≢true h)
not_true false h = refl

pub transmit_again : (f : Frame) → IsOperation (Transmit f) → transmit_at (fields_of (Transmit f)) ≡ Some (Transmit f)
unfolding transmit_at classical_at
transmit_again f w =
    let r = frame_ranges f w.in_range in
    let rest = flag f.ext ∷ flag (remote_bit f.kind) ∷ counted f.bytes in
    let taken : classical_at (fields_of (Transmit f)) ≡ Some f =
    bind_at (number_at (to_le_bytes w32 f.id ++ rest)) (f.id, rest) (λ x. classical_behind x.0 x.1) (number_again f.id rest r.0)
    ∙ classical_again f.id f.ext f.kind f.bytes (not_true (is_fd f.kind) w.valid) r.1 in
    ap (λ (o : Option Frame). option_map Transmit (o >>= checked)) taken ∙ ap (λ (o : Option Frame). option_map Transmit o) (checked_again f w.in_range)

pub fd_transmit_again : (f : Frame) → IsOperation (FdTransmit f) → fd_transmit_at (fields_of (FdTransmit f)) ≡ Some (FdTransmit f)
unfolding fd_transmit_at fd_at
fd_transmit_again f w =
    let r = frame_ranges f w.in_range in
    let rest = flag f.ext ∷ flag (switch_of f.kind) ∷ flag (indicator_of f.kind) ∷ counted f.bytes in
    let taken : fd_at (fields_of (FdTransmit f)) ≡ Some f =
    bind_at (number_at (to_le_bytes w32 f.id ++ rest)) (f.id, rest) (λ x. fd_behind x.0 x.1) (number_again f.id rest r.0)
    ∙ fd_again f.id f.ext f.kind f.bytes w.valid r.1 in
    ap (λ (o : Option Frame). option_map FdTransmit (o >>= checked)) taken ∙ ap (λ (o : Option Frame). option_map FdTransmit o) (checked_again f w.in_range)
