-- One operation: what is taken from bytes has them as its spelling, and what is spelled is taken again.
use Rattle.std.proofs.Common.{◌≡◌, ℕ, suc, ◌+◌, ◌^◌, ◌<◌, ◌≤◌, Bool, true, false, cond, eqb, ltb, leb, ◌&&◌, List, [], ◌∷◌, ◌++◌, length, Option, Some, None, refl, sym, ap, subst, ◌∙◌, arith}
use Rattle.std.specs.Prelude.{option_map, nat_le}
use Rattle.std.specs.Int.{w32, to_le_bytes}
use Rattle.std.proofs.lemmas.Bool.{eqb-true, eq-eqb}
use Rattle.std.proofs.lemmas.Bool.Decides.{nat_tests}
use Rattle.std.proofs.lemmas.List.{nil_from_length}
use Rattle.operation_specs.specs.Operation.{Operation, FormatError, Transmit, FdTransmit, Confirm, ArbitrationLost, BusError, Configuration, Status, Wakeup, Sleep, Parameter, Rate, FdRate, Keep, Discard, Declared, Active, Passive, Off, IsOperation, parameter_fits}
use Rattle.operation_specs.specs.Spelling.{code_of, fields_of, flag, parameter_fields, declared_byte, spelled, spell}
use Rattle.bus_ops.specs.Fields.{◌>>=◌, number_at, lone_number, counted_at, flag_at, part_at, error_behind, error_at, behaviour_at, parameter_at, declared_at, bare, plain_at, fields_at, operation_at}
use Rattle.bus_ops.proofs.FieldLaws.{IsBytes, some_is, bind_some, bind_at, map_some, guard_some, pick, number_takes, number_again, lone_takes, lone_again, counted_takes, counted_again, flag_takes, flag_again, part_takes, part_again}
use Rattle.bus_ops.proofs.FrameLaws.{Spells, frame_ranges, transmit_takes, transmit_again, fd_transmit_takes, fd_transmit_again}

-- ---- a bus error

two_some : (o p : Option Bool) (f : Bool → Bool → Operation) (y : Operation)
    → (o >>= λ a. p >>= λ b. Some (f a b)) ≡ Some y → (a : Bool) × (b : Bool) × (o ≡ Some a) × (p ≡ Some b) × (f a b ≡ y)
two_some (Some a) (Some b) f y e = (a, b, refl, refl, some_is (f a b) y e)
two_some (Some a) None f y e = absurd cc
two_some None p f y e = absurd cc

-- the option that a test lets through
passed : {A : Type 0} (b : Bool) (o : Option A) (y : A) → cond b o None ≡ Some y → (b ≡ true) × (o ≡ Some y)
passed true o y e = (refl, e)
passed false o y e = absurd cc

record Failed (id : ℕ) (fields : List ℕ) (op : Operation) : Type 0 where
  kind : ℕ
  primary : Bool
  sender : Bool
  op_is : BusError id kind primary sender ≡ op
  kind_fits : (nat_le 1 kind && nat_le kind 5) ≡ true
  rest_are : kind ∷ cond primary 1 2 ∷ flag sender ∷ [] ≡ fields

error_takes : (id : ℕ) (fields : List ℕ) (op : Operation) → error_behind id fields ≡ Some op → Failed id fields op
unfolding error_behind
error_takes id [] op e = absurd cc
error_takes id (a ∷ []) op e = absurd cc
error_takes id (a ∷ b ∷ []) op e = absurd cc
error_takes id (a ∷ b ∷ c ∷ d ∷ rest) op e = absurd cc
error_takes id (kind ∷ part ∷ sender ∷ []) op e =
    let p = passed (nat_le 1 kind && nat_le kind 5) (part_at part >>= λ primary. flag_at sender >>= λ sent. Some (BusError id kind primary sent)) op e in
    let t = two_some (part_at part) (flag_at sender) (BusError id kind) op p.1 in
    let x = part_takes part t.0 t.2 in
    let y = flag_takes sender t.1 t.3 in
    record { kind = kind; primary = t.0; sender = t.1; op_is = t.4; kind_fits = p.0; rest_are = cc }

bus_error_takes : (fields : List ℕ) (op : Operation) → IsBytes fields → error_at fields ≡ Some op → Spells 0x31 fields op
unfolding error_at
bus_error_takes fields op h e =
    let n = bind_some (number_at fields) (λ x. error_behind x.0 x.1) op e in
    let b = number_takes fields n.0.0 n.0.1 h n.1 in
    let f = error_takes n.0.0 n.0.1 op n.2 in
    subst (λ (o : Operation). Spells 0x31 fields o) f.op_is record {
      is_one = record { valid = f.kind_fits; in_range = grind (arith, nat_tests, b.below) };
      code_is = refl;
      fields_are = ap (λ (t : List ℕ). to_le_bytes w32 n.0.0 ++ t) f.rest_are ∙ b.parts;
    }

-- ---- plain operations

number_fits : (n : ℕ) → n < 2 ^ 32 → ltb n (2 ^ 32) ≡ true
number_fits n h = grind (arith, nat_tests)

below_from_fits : (n : ℕ) → ltb n (2 ^ 32) ≡ true → n < 2 ^ 32
below_from_fits n h = grind (arith, nat_tests)

record Configures (fields : List ℕ) (p : Parameter) : Type 0 where
  fit : parameter_fits p ≡ true
  fields_are : parameter_fields p ≡ fields

tagged : (k tag : ℕ) (own rest : List ℕ) → tag ≡ k → own ≡ rest → k ∷ own ≡ tag ∷ rest
tagged k tag own rest e p = cc

behaviour_takes : (tag : ℕ) (rest : List ℕ) (p : Parameter) → tag ≡ 4 → behaviour_at rest ≡ Some p → Configures (tag ∷ rest) p
behaviour_takes tag [] p t e = absurd cc
behaviour_takes tag (a ∷ b ∷ rest) p t e = absurd cc
behaviour_takes tag (byte ∷ []) p t e =
    pick (eqb byte 1) (Some Keep) (cond (eqb byte 2) (Some Discard) None) p (Configures (tag ∷ byte ∷ []) p) e
    (λ b x. subst (λ (q : Parameter). Configures (tag ∷ byte ∷ []) q) (some_is Keep p x)
    (record { fit = refl; fields_are = tagged 4 tag (1 ∷ []) (byte ∷ []) t (ap (λ (n : ℕ). n ∷ []) (sym (eqb-true byte 1 b))) }))
    (λ _ y.
    let g = guard_some (eqb byte 2) Discard p y in
    subst (λ (q : Parameter). Configures (tag ∷ byte ∷ []) q) g.1
    (record { fit = refl; fields_are = tagged 4 tag (2 ∷ []) (byte ∷ []) t (ap (λ (n : ℕ). n ∷ []) (sym (eqb-true byte 2 g.0))) }))

parameter_takes : (fields : List ℕ) (p : Parameter) → IsBytes fields → parameter_at fields ≡ Some p → Configures fields p
unfolding parameter_at
parameter_takes [] p h e = absurd cc
parameter_takes (tag ∷ rest) p h e =
    pick (eqb tag 1) (option_map Rate (lone_number rest)) (cond (eqb tag 2) (option_map FdRate (lone_number rest)) (cond (eqb tag 4) (behaviour_at rest) None)) p (Configures (tag ∷ rest) p) e
    (λ t x.
    let m = map_some Rate (lone_number rest) p x in
    let n = lone_takes rest m.0 (λ i. h (suc i)) m.1 in
    subst (λ (q : Parameter). Configures (tag ∷ rest) q) m.2
    (record { fit = number_fits m.0 n.1; fields_are = tagged 1 tag (to_le_bytes w32 m.0) rest (eqb-true tag 1 t) n.0 }))
    (λ _ y. pick (eqb tag 2) (option_map FdRate (lone_number rest)) (cond (eqb tag 4) (behaviour_at rest) None) p (Configures (tag ∷ rest) p) y
    (λ t x.
    let m = map_some FdRate (lone_number rest) p x in
    let n = lone_takes rest m.0 (λ i. h (suc i)) m.1 in
    subst (λ (q : Parameter). Configures (tag ∷ rest) q) m.2
    (record { fit = number_fits m.0 n.1; fields_are = tagged 2 tag (to_le_bytes w32 m.0) rest (eqb-true tag 2 t) n.0 }))
    (λ _ z.
    let g = passed (eqb tag 4) (behaviour_at rest) p z in
    behaviour_takes tag rest p (eqb-true tag 4 g.0) g.1))

byte_is : (a b : ℕ) → b ≡ a → a ∷ [] ≡ b ∷ []
byte_is a b e = ap (λ (x : ℕ). x ∷ []) (sym e)

declared_takes : (fields : List ℕ) (d : Declared) → declared_at fields ≡ Some d → declared_byte d ∷ [] ≡ fields
declared_takes [] d e = absurd cc
declared_takes (a ∷ b ∷ rest) d e = absurd cc
declared_takes (byte ∷ []) d e =
    let P : Declared → Type 0 = λ v. declared_byte v ∷ [] ≡ byte ∷ [] in
    pick (eqb byte 1) (Some Active) (cond (eqb byte 2) (Some Passive) (cond (eqb byte 3) (Some Off) None)) d (P d) e
    (λ t x. subst P (some_is Active d x) (byte_is 1 byte (eqb-true byte 1 t)))
    (λ _ y. pick (eqb byte 2) (Some Passive) (cond (eqb byte 3) (Some Off) None) d (P d) y
    (λ t x. subst P (some_is Passive d x) (byte_is 2 byte (eqb-true byte 2 t)))
    (λ _ z. let g = guard_some (eqb byte 3) Off d z in subst P g.1 (byte_is 3 byte (eqb-true byte 3 g.0))))

bare_takes : (op : Operation) (fields : List ℕ) (o : Operation) → bare op fields ≡ Some o → (op ≡ o) × ([] ≡ fields)
bare_takes op fields o e = let g = guard_some (eqb (length fields) 0) op o e in (g.1, sym (nil_from_length fields (eqb-true _ _ g.0)))

-- the same fields behind the code that was tested
spells_at : (k code : ℕ) (fields : List ℕ) (op o : Operation) → code ≡ k → op ≡ o → Spells k fields op → Spells code fields o
spells_at k code fields op o e p s =
    let t : Spells code fields op = subst (λ (c : ℕ). Spells c fields op) (sym e) s in
    subst (λ (x : Operation). Spells code fields x) p t

bare_spells : (op : Operation) (fields : List ℕ) → IsOperation op → fields_of op ≡ [] → [] ≡ fields → Spells (code_of op) fields op
bare_spells op fields w f e = record { is_one = w; code_is = refl; fields_are = f ∙ e }

plain_takes : (code : ℕ) (fields : List ℕ) (op : Operation) → IsBytes fields → plain_at code fields ≡ Some op → Spells code fields op
unfolding plain_at
plain_takes code fields op h e =
    let P = Spells code fields op in
    pick (eqb code 0x20) _ _ op P e
    (λ t x.
    let m = map_some Confirm (lone_number fields) op x in
    let n = lone_takes fields m.0 h m.1 in
    spells_at 0x20 code fields (Confirm m.0) op (eqb-true code 0x20 t) m.2
    (record { is_one = record { valid = refl; in_range = number_fits m.0 n.1 }; code_is = refl; fields_are = n.0 }))
    (λ _ e2. pick (eqb code 0x30) _ _ op P e2
    (λ t x.
    let m = map_some ArbitrationLost (lone_number fields) op x in
    let n = lone_takes fields m.0 h m.1 in
    spells_at 0x30 code fields (ArbitrationLost m.0) op (eqb-true code 0x30 t) m.2
    (record { is_one = record { valid = refl; in_range = number_fits m.0 n.1 }; code_is = refl; fields_are = n.0 }))
    (λ _ e3. pick (eqb code 0x31) _ _ op P e3
    (λ t x. spells_at 0x31 code fields op op (eqb-true code 0x31 t) refl (bus_error_takes fields op h x))
    (λ _ e4. pick (eqb code 0x40) _ _ op P e4
    (λ t x.
    let m = map_some Configuration (parameter_at fields) op x in
    let n = parameter_takes fields m.0 h m.1 in
    spells_at 0x40 code fields (Configuration m.0) op (eqb-true code 0x40 t) m.2
    (record { is_one = record { valid = refl; in_range = n.fit }; code_is = refl; fields_are = n.fields_are }))
    (λ _ e5. pick (eqb code 0x41) _ _ op P e5
    (λ t x.
    let m = map_some Status (declared_at fields) op x in
    spells_at 0x41 code fields (Status m.0) op (eqb-true code 0x41 t) m.2
    (record { is_one = record { valid = refl; in_range = refl }; code_is = refl; fields_are = declared_takes fields m.0 m.1 }))
    (λ _ e6. pick (eqb code 0x42) _ _ op P e6
    (λ t x.
    let b = bare_takes Wakeup fields op x in
    spells_at 0x42 code fields Wakeup op (eqb-true code 0x42 t) b.0 (bare_spells Wakeup fields (record { valid = refl; in_range = refl }) refl b.1))
    (λ _ e7.
    let g = passed (eqb code 0xf0) (bare Sleep fields) op e7 in
    let b = bare_takes Sleep fields op g.1 in
    spells_at 0xf0 code fields Sleep op (eqb-true code 0xf0 g.0) b.0 (bare_spells Sleep fields (record { valid = refl; in_range = refl }) refl b.1)))))))

bytes_fit : (n : ℕ) → n ≤ 65535 → leb n 65535 ≡ true
bytes_fit n h = grind (arith, nat_tests)

fields_take : (code : ℕ) (fields : List ℕ) (op : Operation) → IsBytes fields → fields_at code fields ≡ Some op → Spells code fields op
unfolding fields_at
fields_take code fields op h e =
    let P = Spells code fields op in
    pick (eqb code 0x01) _ _ op P e
    (λ t x.
    let m = map_some FormatError (counted_at fields) op x in
    let n = counted_takes fields m.0 h m.1 in
    spells_at 0x01 code fields (FormatError m.0) op (eqb-true code 0x01 t) m.2
    (record { is_one = record { valid = bytes_fit (length m.0) n.1; in_range = refl }; code_is = refl; fields_are = n.0 }))
    (λ _ e2. pick (eqb code 0x10) _ _ op P e2
    (λ t x. spells_at 0x10 code fields op op (eqb-true code 0x10 t) refl (transmit_takes fields op h x))
    (λ _ e3. pick (eqb code 0x11) _ _ op P e3
    (λ t x. spells_at 0x11 code fields op op (eqb-true code 0x11 t) refl (fd_transmit_takes fields op h x))
    (λ _ x. plain_takes code fields op h x)))

short_from_fits : (n : ℕ) → leb n 65535 ≡ true → n ≤ 65535
short_from_fits n h = grind (arith, nat_tests)

-- a header and what stands behind it
whole : (bytes behind fields : List ℕ) (code total : ℕ) → to_le_bytes w32 code ++ behind ≡ bytes → to_le_bytes w32 total ++ fields ≡ behind → total ≡ length bytes → spelled code fields ≡ bytes
whole bytes behind fields code total p q e =
    let m : length (to_le_bytes w32 code ++ behind) ≡ length bytes = ap length p in
    let n : length (to_le_bytes w32 total ++ fields) ≡ length behind = ap length q in
    let t : 8 + length fields ≡ total = omega arith in
    ap (λ (k : ℕ). to_le_bytes w32 code ++ to_le_bytes w32 k ++ fields) t ∙ ap (λ (r : List ℕ). to_le_bytes w32 code ++ r) q ∙ p

-- what is taken has the bytes as its spelling
pub operation_takes : (bytes : List ℕ) (op : Operation) → IsBytes bytes → operation_at bytes ≡ Some op → IsOperation op × (spell op ≡ bytes)
unfolding operation_at spell
operation_takes bytes op h e =
    let c = bind_some (number_at bytes) (λ x. number_at x.1 >>= λ y. cond (eqb y.0 (length bytes)) (fields_at x.0 y.1) None) op e in
    let t = bind_some (number_at c.0.1) (λ y. cond (eqb y.0 (length bytes)) (fields_at c.0.0 y.1) None) op c.2 in
    let g = passed (eqb t.0.0 (length bytes)) (fields_at c.0.0 t.0.1) op t.2 in
    let head = number_takes bytes c.0.0 c.0.1 h c.1 in
    let behind = number_takes c.0.1 t.0.0 t.0.1 head.fits t.1 in
    let s = fields_take c.0.0 t.0.1 op behind.fits g.1 in (
      s.is_one,
      ap (λ (k : ℕ). spelled k (fields_of op)) s.code_is ∙ ap (λ (r : List ℕ). spelled c.0.0 r) s.fields_are
          ∙ whole bytes c.0.1 t.0.1 c.0.0 t.0.0 head.parts behind.parts (eqb-true _ _ g.0),
    )

-- ---- again

error_again : (id kind : ℕ) (primary sender : Bool) → (nat_le 1 kind && nat_le kind 5) ≡ true
    → error_behind id (kind ∷ cond primary 1 2 ∷ flag sender ∷ []) ≡ Some (BusError id kind primary sender)
unfolding error_behind
error_again id kind primary sender h =
    rw h (bind_at (part_at (cond primary 1 2)) primary (λ p. flag_at (flag sender) >>= λ s. Some (BusError id kind p s)) (part_again primary)
    ∙ bind_at (flag_at (flag sender)) sender (λ s. Some (BusError id kind primary s)) (flag_again sender))

bus_error_again : (id kind : ℕ) (primary sender : Bool) → id < 2 ^ 32 → (nat_le 1 kind && nat_le kind 5) ≡ true
    → error_at (fields_of (BusError id kind primary sender)) ≡ Some (BusError id kind primary sender)
unfolding error_at
bus_error_again id kind primary sender lt h =
    let rest = kind ∷ cond primary 1 2 ∷ flag sender ∷ [] in
    bind_at (number_at (to_le_bytes w32 id ++ rest)) (id, rest) (λ x. error_behind x.0 x.1) (number_again id rest lt) ∙ error_again id kind primary sender h

parameter_again : (p : Parameter) → parameter_fits p ≡ true → parameter_at (parameter_fields p) ≡ Some p
unfolding parameter_at
parameter_again (Rate rate) h = ap (λ (o : Option ℕ). option_map Rate o) (lone_again rate (below_from_fits rate h))
parameter_again (FdRate rate) h = ap (λ (o : Option ℕ). option_map FdRate o) (lone_again rate (below_from_fits rate h))
parameter_again Keep h = refl
parameter_again Discard h = refl

declared_again : (d : Declared) → declared_at (declared_byte d ∷ []) ≡ Some d
declared_again Active = refl
declared_again Passive = refl
declared_again Off = refl

fields_again : (op : Operation) → IsOperation op → fields_at (code_of op) (fields_of op) ≡ Some op
unfolding fields_at plain_at
fields_again (FormatError bytes) w = ap (λ (o : Option (List ℕ)). option_map FormatError o) (counted_again bytes (short_from_fits (length bytes) w.valid))
fields_again (Transmit f) w = transmit_again f w
fields_again (FdTransmit f) w = fd_transmit_again f w
fields_again (Confirm id) w = ap (λ (o : Option ℕ). option_map Confirm o) (lone_again id (below_from_fits id w.in_range))
fields_again (ArbitrationLost id) w = ap (λ (o : Option ℕ). option_map ArbitrationLost o) (lone_again id (below_from_fits id w.in_range))
fields_again (BusError id kind primary sender) w = bus_error_again id kind primary sender (below_from_fits id w.in_range) w.valid
fields_again (Configuration p) w = ap (λ (o : Option Parameter). option_map Configuration o) (parameter_again p w.in_range)
fields_again (Status d) w = ap (λ (o : Option Declared). option_map Status o) (declared_again d)
fields_again Wakeup w = refl
fields_again Sleep w = refl

code_below : (op : Operation) → code_of op < 2 ^ 32
code_below (FormatError bytes) = omega arith
code_below (Transmit f) = omega arith
code_below (FdTransmit f) = omega arith
code_below (Confirm id) = omega arith
code_below (ArbitrationLost id) = omega arith
code_below (BusError id kind primary sender) = omega arith
code_below (Configuration p) = omega arith
code_below (Status d) = omega arith
code_below Wakeup = omega arith
code_below Sleep = omega arith

parameter_short : (p : Parameter) → length (parameter_fields p) ≤ 65546
parameter_short (Rate rate) = omega arith
parameter_short (FdRate rate) = omega arith
parameter_short Keep = omega arith
parameter_short Discard = omega arith

pub fields_short : (op : Operation) → IsOperation op → length (fields_of op) ≤ 65546
fields_short (FormatError bytes) w = let s = short_from_fits (length bytes) w.valid in omega arith
fields_short (Transmit f) w = let r = frame_ranges f w.in_range in omega arith
fields_short (FdTransmit f) w = let r = frame_ranges f w.in_range in omega arith
fields_short (Confirm id) w = omega arith
fields_short (ArbitrationLost id) w = omega arith
fields_short (BusError id kind primary sender) w = omega arith
fields_short (Configuration p) w = parameter_short p
fields_short (Status d) w = omega arith
fields_short Wakeup w = omega arith
fields_short Sleep w = omega arith

pub length-spelled : (code : ℕ) (fields : List ℕ) → length (spelled code fields) ≡ 8 + length fields
length-spelled code fields = omega arith

-- what is spelled is taken
pub operation_again : (op : Operation) → IsOperation op → operation_at (spell op) ≡ Some op
unfolding operation_at spell
operation_again op w =
    let code = code_of op in
    let fields = fields_of op in
    let total = 8 + length fields in
    let short = fields_short op w in
    let bytes = spelled code fields in
    let test : eqb total (length bytes) ≡ true = eq-eqb _ _ (sym (length-spelled code fields)) in
    bind_at (number_at bytes) (code, to_le_bytes w32 total ++ fields) (λ x. number_at x.1 >>= λ y. cond (eqb y.0 (length bytes)) (fields_at x.0 y.1) None)
    (number_again code (to_le_bytes w32 total ++ fields) (code_below op))
    ∙ bind_at (number_at (to_le_bytes w32 total ++ fields)) (total, fields) (λ y. cond (eqb y.0 (length bytes)) (fields_at code y.1) None)
    (number_again total fields (omega arith))
    ∙ rw test (fields_again op w)

-- no two operations have one spelling
pub one_spelling : (op other : Operation) → IsOperation op → IsOperation other → spell op ≡ spell other → op ≡ other
one_spelling op other w v e = some_is op other (sym (operation_again op w) ∙ ap operation_at e ∙ operation_again other v)
