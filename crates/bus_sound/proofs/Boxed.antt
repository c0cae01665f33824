-- What a node takes at its turn on a sound bus has at most 175 bytes: 81 of mail, 12 lost, 74 format, 8 wake.
use Rattle.std.proofs.Common.{◌≡◌, ℕ, ◌+◌, ◌≤◌, ◌==◌, Bool, true, false, if◌then◌else◌, List, [], ◌∷◌, ◌++◌, length, map, flat_map, IfSome, Option, Some, None, arith, refl, ap, ◌∙◌, subst, inl, inr, length-append}
use Rattle.std.specs.Prelude.{option_map, option_to_list, nat_le, ◌&&◌}
use Rattle.std.specs.List.{list_all}
use Rattle.std.proofs.lemmas.Bool.{and_parts, leb-true, eqb-true}
use Rattle.std.proofs.lemmas.Grind.{flat_map-append}
use Rattle.std.specs.Int.{w16, w32, to_le_bytes}
use Rattle.frame_specs.specs.Frame.{Frame, Kind, Data, Remote, Fd, lengths, length_fits, remote_fits, identifier_fits, is_well_formed}
use Rattle.operation_specs.specs.Operation.{Operation, Transmit, FdTransmit, ArbitrationLost, FormatError, Wakeup}
use Rattle.operation_specs.specs.Operation as op
use Rattle.operation_specs.specs.Spelling.{spell, code_of, fields_of, counted, flag, switch_of, indicator_of}
use Rattle.frame_specs.specs.Wire.{remote_bit}
use Rattle.bus_specs.specs.Bus.{Bus, Setup, Member, Mail, Received, Confirm, BusError, LostNotice, FormatNotice}
use Rattle.bus_specs.specs.Inbox.{inbox, items_of, members_at, due, due_lost, due_format, due_wake, operation_of_mail, transmit_as}
use Rattle.bus_specs.specs.Sound.{Sound, SoundMember, IsMail, IsEcho, Rise}
use Rattle.bus_sound.proofs.Among.{Among, filter-among}
use Rattle.bus_sound.proofs.Lists.{each-All, rise-filter, any_to}

spell-length : (o : Operation) → length (spell o) ≡ 8 + length (fields_of o)
unfolding spell
spell-length o =
    let whole = length-append (to_le_bytes w32 (code_of o)) (to_le_bytes w32 (8 + length (fields_of o)) ++ fields_of o) in
    let rest = length-append (to_le_bytes w32 (8 + length (fields_of o))) (fields_of o) in
    omega (arith, whole, rest)

small : (xs : List ℕ) (x : ℕ) → list_all (λ l. nat_le l 64) xs ≡ true → Among xs x → x ≤ 64
small [] x h a = absurd a
small (y ∷ xs) x h (inl e) = subst (λ k. k ≤ 64) e (leb-true y 64 (and_parts (nat_le y 64) (list_all (λ l. nat_le l 64) xs) h).0)
small (y ∷ xs) x h (inr a) = small xs x (and_parts (nat_le y 64) (list_all (λ l. nat_le l 64) xs) h).1 a

-- the data of a frame
fits-length : (k : Kind) (n : ℕ) → length_fits k n ≡ true → n ≤ 64
fits-length Data n h = omega (arith, leb-true n 8 h)
fits-length Remote n h = omega (arith, leb-true n 8 h)
fits-length (Fd brs esi) n h =
    let r = any_to (λ l. l == n) lengths h in
    subst (λ k. k ≤ 64) (eqb-true r.0 n r.2) (small lengths r.0 refl r.1)

data-length : (f : Frame) → is_well_formed f ≡ true → length f.bytes ≤ 64
data-length f h = fits-length f.kind (length f.bytes)
    (and_parts (identifier_fits f.ext f.id && remote_fits f.kind (length f.bytes)) (length_fits f.kind (length f.bytes)) h).1

counted-length : (bytes : List ℕ) → length (counted bytes) ≡ 2 + length bytes
counted-length bytes = omega (arith, length-append (to_le_bytes w16 (length bytes)) bytes)

classic-length : (f : Frame) → length (fields_of (Transmit f)) ≡ 8 + length f.bytes
classic-length f = omega (
  arith,
  counted-length f.bytes,
  length-append (to_le_bytes w32 f.id) (flag f.ext ∷ flag (remote_bit f.kind) ∷ counted f.bytes),
)

fd-length : (f : Frame) → length (fields_of (FdTransmit f)) ≡ 9 + length f.bytes
fd-length f = omega (
  arith,
  counted-length f.bytes,
  length-append (to_le_bytes w32 f.id) (flag f.ext ∷ flag (switch_of f.kind) ∷ flag (indicator_of f.kind) ∷ counted f.bytes),
)

transmit-length : (k : Kind) (f : Frame) → length f.bytes ≤ 64 → length (spell (transmit_as k f)) ≤ 81
transmit-length (Fd brs esi) f h = omega (arith, h, spell-length (FdTransmit f), fd-length f)
transmit-length Data f h = omega (arith, h, spell-length (Transmit f), classic-length f)
transmit-length Remote f h = omega (arith, h, spell-length (Transmit f), classic-length f)

mail-length : (s : Setup) (m : Mail) → IsMail s m → length (spell (operation_of_mail m)) ≤ 81
mail-length s (Received f) h = transmit-length f.kind f (data-length f h.well_formed)
mail-length s (Confirm id) h = let l : length (fields_of (op.Confirm id)) ≡ 4 = refl in omega (arith, spell-length (op.Confirm id), l)
mail-length s (BusError id kind primary sender) h =
    let l : length (fields_of (op.BusError id kind primary sender)) ≡ 7 = refl in omega (arith, spell-length (op.BusError id kind primary sender), l)

lost-length : (id : ℕ) → length (spell (ArbitrationLost id)) ≤ 12
lost-length id = let l : length (fields_of (ArbitrationLost id)) ≡ 4 = refl in omega (arith, spell-length (ArbitrationLost id), l)

format-length : (bytes : List ℕ) → length bytes ≤ 64 → length (spell (FormatError bytes)) ≤ 74
format-length bytes h = omega (arith, h, spell-length (FormatError bytes), counted-length bytes)

wake-length : length (spell Wakeup) ≤ 8
wake-length = let l : length (fields_of Wakeup) ≡ 0 = refl in omega (arith, spell-length Wakeup, l)

size : List Operation → ℕ
size ops = length (flat_map spell ops)

size-append : (xs ys : List Operation) → size (xs ++ ys) ≡ size xs + size ys
unfolding size
size-append xs ys = ap length (flat_map-append spell xs ys) ∙ length-append (flat_map spell xs) (flat_map spell ys)

size-some : {A : Type 0} (f : A → Operation) (o : Option A) (most : ℕ) → IfSome o (λ x. length (spell (f x)) ≤ most) → size (option_to_list (option_map f o)) ≤ most
unfolding size
size-some f None most h = omega arith
size-some f (Some x) most h = omega (arith, h, length-append (spell (f x)) [])

due-some : {A : Type 0} (when : A → ℕ) (now : ℕ) (P : A → Type 0) (o : Option A) → IfSome o P → IfSome (due when now o) P
due-some when now P None h = tt
due-some {A} when now P (Some n) h = go (nat_le (when n) now)
  where
    go : (t : Bool) → IfSome (if t then Some n else None) P
    go true = h
    go false = tt

each-some : {A : Type 0} (P Q : A → Type 0) (o : Option A) → ((x : A) → P x → Q x) → IfSome o P → IfSome o Q
each-some P Q None h k = tt
each-some P Q (Some x) h k = h x k

any-some : {A : Type 0} (Q : A → Type 0) (o : Option A) → ((x : A) → Q x) → IfSome o Q
any-some Q None h = tt
any-some Q (Some x) h = h x

member-size : (b : Bus) (now : ℕ) (m : Member) → SoundMember b.setup b.running m → size (items_of now m) ≤ 175
member-size b now m k =
    let mail : size (option_to_list (option_map operation_of_mail m.mail)) ≤ 81 = size-some operation_of_mail m.mail 81
    (each-some (IsMail b.setup) (λ x. length (spell (operation_of_mail x)) ≤ 81) m.mail (λ x h. mail-length b.setup x h) k.mail) in
    let lost : size (option_to_list (option_map (λ (n : LostNotice). ArbitrationLost n.id) (due_lost now m))) ≤ 12 = size-some (λ (n : LostNotice). ArbitrationLost n.id) (due_lost now m) 12
    (any-some (λ (n : LostNotice). length (spell (ArbitrationLost n.id)) ≤ 12) (due_lost now m) (λ n. lost-length n.id)) in
    let format : size (option_to_list (option_map (λ (n : FormatNotice). FormatError n.bytes) (due_format now m))) ≤ 74 = size-some (λ (n : FormatNotice). FormatError n.bytes) (due_format now m) 74
    (each-some (λ (n : FormatNotice). IsEcho n.bytes) (λ (n : FormatNotice). length (spell (FormatError n.bytes)) ≤ 74) (due_format now m) (λ n h. format-length n.bytes h.cut)
    (due-some (λ (n : FormatNotice). n.due) now (λ (n : FormatNotice). IsEcho n.bytes) m.format k.echo)) in
    let wake : size (option_to_list (option_map (λ (n : ℕ). Wakeup) (due_wake now m))) ≤ 8 = size-some (λ (n : ℕ). Wakeup) (due_wake now m) 8
    (any-some (λ (n : ℕ). length (spell Wakeup) ≤ 8) (due_wake now m) (λ n. wake-length)) in
    let a = size-append (option_to_list (option_map operation_of_mail m.mail) ++ option_to_list (option_map (λ (n : LostNotice). ArbitrationLost n.id) (due_lost now m)) ++ option_to_list (option_map (λ (n : FormatNotice). FormatError n.bytes) (due_format now m))) (option_to_list (option_map (λ (n : ℕ). Wakeup) (due_wake now m))) in
    let c = size-append (option_to_list (option_map operation_of_mail m.mail) ++ option_to_list (option_map (λ (n : LostNotice). ArbitrationLost n.id) (due_lost now m))) (option_to_list (option_map (λ (n : FormatNotice). FormatError n.bytes) (due_format now m))) in
    let d = size-append (option_to_list (option_map operation_of_mail m.mail)) (option_to_list (option_map (λ (n : LostNotice). ArbitrationLost n.id) (due_lost now m))) in
    omega (arith, mail, lost, format, wake, a, c, d)

-- a node is one member at most
all-size : (b : Bus) (now node : ℕ) (ms : List Member) (from below : ℕ) → Rise from (map (λ m. m.node) ms) below
    → ((m : Member) → Among ms m → m.node ≡ node) → ((m : Member) → Among ms m → size (items_of now m) ≤ 175) → size (flat_map (items_of now) ms) ≤ 175
unfolding size
all-size b now node [] from below rise same h = omega arith
all-size b now node (m ∷ []) from below rise same h =
    omega (arith, h m (inl refl), size-append (items_of now m) [])
all-size b now node (m ∷ n ∷ ms) from below rise same h =
    let first : m.node ≡ node = same m (inl refl) in
    let second : n.node ≡ node = same n (inr (inl refl)) in
    let apart : m.node + 1 ≤ n.node = (rise.1).0 in
    absurd (omega (arith, first, second, apart))

pub inbox-short : (b : Bus) (now node : ℕ) → Sound b → length (inbox b now node) ≤ 175
unfolding size
inbox-short b now node h = all-size b now node (members_at b node) 0 (h.nodes).0
    (rise-filter (λ (m : Member). m.node) (λ m. m.node == node) 0 b.members (h.nodes).0 (h.nodes).1)
    (λ m a. eqb-true m.node node (filter-among (λ m. m.node == node) b.members m a).1)
    (λ m a. member-size b now m (each-All (SoundMember b.setup b.running) b.members m h.members (filter-among (λ m. m.node == node) b.members m a).0))
