-- Reading and printing a frame's text undo each other.
use Rattle.std.proofs.Common.{◌≡◌, ◌<◌, ◌==◌, ℕ, zero, suc, ◌+◌, ◌*◌, ◌/◌, ◌%◌, ◌^◌, Bool, true, false, cond, ◌&&◌, subst, List, [], ◌∷◌, ◌++◌, length, Option, Some, None, refl, sym, ap, ◌∙◌, arith}
use Rattle.std.specs.Prelude.{All, codes, nat_lt, nat_le, option_and_then, option_map}
use Rattle.std.proofs.lemmas.Bool.Decides.{nat_tests}
use Rattle.std.proofs.lemmas.Nat.{mul-add-lt, mod-mul-add, mod_below, div-add-mod'}
use Rattle.std.proofs.lemmas.Bool.{eqb-true, leb-true, ltb-true, and_parts}
use Rattle.std.proofs.lemmas.List.{append_assoc}
use Rattle.std.proofs.lemmas.Option.{cond_some, same_Some}
use Rattle.std.proofs.Math.Nat.{add-mul, mul_assoc, mul_comm, pow-suc, one-le-pow, div-div-eq-div-mul}
use Rattle.std.proofs.lemmas.List.Elements.{All-cons, All-head, All-nil, All-tail}
use Rattle.frame_specs.specs.Frame.{Frame, Kind, Data, Remote, Fd, is_well_formed, identifier_fits, remote_fits, length_fits}
use Rattle.frame_specs.specs.FrameText.{hex_digit, hex, hex_bytes, identifier_text, flag, data_text, frame_text}
use Rattle.frame_specs.specs.FrameReading.{digit_of, number_from, bytes_of, cut, format_of, fd_kind_of, with_kind, remote_of, fd_of, content_of, if_well_formed, frame_of, Spells}

-- ---- steps that may give nothing

bind_some : {A B : Type 0} (o : Option A) (f : A → Option B) (y : B) → option_and_then f o ≡ Some y
    → (x : A) × (o ≡ Some x) × (f x ≡ Some y)
bind_some (Some x) f y read = (x, refl, read)
bind_some None f y read = cc read

map_some : {A B : Type 0} (o : Option A) (f : A → B) (y : B) → option_map f o ≡ Some y
    → (x : A) × (o ≡ Some x) × (f x ≡ y)
map_some (Some x) f y read = (x, refl, same_Some (f x) y read)
map_some None f y read = cc read

-- ---- digits

digit_of-hex_digit : (n : ℕ) → n < 16 → digit_of (hex_digit n) ≡ Some n
digit_of-hex_digit n small = grind (arith, nat_tests)

hex_digit-digit_of : (c d : ℕ) → digit_of c ≡ Some d → (hex_digit d ≡ c) × (d < 16)
hex_digit-digit_of c d read = grind (arith, nat_tests)

-- no digit is # or R
hex_digit-hash : (n : ℕ) → (hex_digit n == 35) ≡ false
hex_digit-hash n = grind (arith, nat_tests)

hex_digit-letter : (n : ℕ) → (hex_digit n == 82) ≡ false
hex_digit-letter n = grind (arith, nat_tests)

number_from_digit : (n c d : ℕ) (cs : List ℕ) → digit_of c ≡ Some d → number_from n (c ∷ cs) ≡ number_from (16 * n + d) cs
number_from_digit n c d cs read = ap (option_and_then (λ v. number_from (16 * n + v) cs)) read

-- ---- numbers

row_parts : (h q p : ℕ) → (h * 16 + q) * p ≡ h * (p * 16) + q * p
row_parts h q p = add-mul (h * 16) q p ∙ ap (λ x. x + q * p) (mul_assoc h 16 p ∙ ap (λ x. h * x) (mul_comm 16 p))

mod_row : (m p : ℕ) → 0 < p → (m / p % 16) * p + m % p ≡ m % (p * 16)
mod_row m p some =
    let q = m / p % 16 in
    let small : q * p + m % p < p * 16 = mul-add-lt q p (m % p) 16 (mod_below (m / p) 16 (omega arith)) (mod_below m p some) in
    let whole : m / p * p + m % p ≡ m = div-add-mod' m p in
    let high : m / p / 16 * 16 + q ≡ m / p = div-add-mod' (m / p) 16 in
    let parts : m / p / 16 * (p * 16) + (q * p + m % p) ≡ m = omega (arith, sym (row_parts (m / p / 16) q p), ap (λ x. x * p) high) in
    sym (ap (λ x. x % (p * 16)) (sym parts) ∙ mod-mul-add (m / p / 16) (p * 16) (q * p + m % p) small)

number_from-hex : (w n m : ℕ) → number_from n (hex w m) ≡ Some (n * 16 ^ w + m % 16 ^ w)
number_from-hex zero n m = ap Some (omega arith)
number_from-hex (suc w) n m =
    let q = m / 16 ^ w % 16 in
    number_from_digit n (hex_digit q) q (hex w m) (digit_of-hex_digit q (mod_below (m / 16 ^ w) 16 (omega arith)))
    ∙ number_from-hex w (16 * n + q) m
    ∙ ap Some (rw (pow-suc 16 w) (omega (arith, row_parts n q (16 ^ w), mod_row m (16 ^ w) (one-le-pow w 16 (omega arith)))))

length-hex : (w n : ℕ) → length (hex w n) ≡ w
length-hex zero n = refl
length-hex (suc w) n = ap suc (length-hex w n)

number_from-spelled : (cs : List ℕ) (n r : ℕ) → number_from n cs ≡ Some r
    → (hex (length cs) r ≡ cs) × (r / 16 ^ length cs ≡ n)
number_from-spelled [] n r read =
    let same : n ≡ r = same_Some n r read in
    (refl, omega arith)
number_from-spelled (c ∷ cs) n r read =
    let first = bind_some (digit_of c) _ r read in
    let digit = hex_digit-digit_of c first.0 first.1 in
    let others = number_from-spelled cs (16 * n + first.0) r first.2 in
    let last : r / 16 ^ length cs % 16 ≡ first.0 = omega (arith, digit.1, others.1) in (
      ap (λ v. hex_digit v ∷ hex (length cs) r) last ∙ ap (λ x. x ∷ hex (length cs) r) digit.0 ∙ ap (λ xs. c ∷ xs) others.0,
      rw (pow-suc 16 (length cs)) (sym (div-div-eq-div-mul r (16 ^ length cs) 16) ∙ omega (arith, digit.1, others.1)),
    )

-- ---- separators

cut_past : (s c : ℕ) (cs : List ℕ) → (c == s) ≡ false → cut s (c ∷ cs) ≡ option_map (λ p. (c ∷ p.0, p.1)) (cut s cs)
cut_past s c cs other = rw other refl

cut-hex : (w n : ℕ) (rest : List ℕ) → cut 35 (hex w n ++ 35 ∷ rest) ≡ Some (hex w n, rest)
cut-hex zero n rest = refl
cut-hex (suc w) n rest =
    let c = hex_digit (n / 16 ^ w % 16) in
    cut_past 35 c (hex w n ++ 35 ∷ rest) (hex_digit-hash (n / 16 ^ w % 16))
    ∙ ap (option_map (λ p. (c ∷ p.0, p.1))) (cut-hex w n rest)

cut_step : (same : Bool) (s c : ℕ) (cs : List ℕ) (rest : Option (List ℕ × List ℕ)) (p : List ℕ × List ℕ)
    → (same ≡ true → c ≡ s)
    → ((q : List ℕ × List ℕ) → rest ≡ Some q → cs ≡ q.0 ++ s ∷ q.1)
    → cond same (Some ([], cs)) (option_map (λ q. (c ∷ q.0, q.1)) rest) ≡ Some p
    → c ∷ cs ≡ p.0 ++ s ∷ p.1
cut_step true s c cs rest p here later found =
    let parts : ([], cs) ≡ p = same_Some ([], cs) p found in
    rw (← parts) (ap (λ x. x ∷ cs) (here refl))
cut_step false s c cs None p here later found = cc found
cut_step false s c cs (Some q) p here later found =
    let parts : (c ∷ q.0, q.1) ≡ p = same_Some (c ∷ q.0, q.1) p found in
    rw (← parts) (ap (λ xs. c ∷ xs) (later q refl))

pub cut-spelled : (s : ℕ) (text : List ℕ) (p : List ℕ × List ℕ) → cut s text ≡ Some p → text ≡ p.0 ++ s ∷ p.1
cut-spelled s [] p found = cc found
cut-spelled s (c ∷ cs) p found =
    cut_step (c == s) s c cs (cut s cs) p (eqb-true c s) (cut-spelled s cs) found

-- ---- bytes

bytes_of_pair : (c d high low : ℕ) (cs bytes : List ℕ)
    → digit_of c ≡ Some high → digit_of d ≡ Some low → bytes_of cs ≡ Some bytes
    → bytes_of (c ∷ d ∷ cs) ≡ Some ((16 * high + low) ∷ bytes)
bytes_of_pair c d high low cs bytes first second rest = rw (first, second, rest) refl

pub bytes_of-hex_bytes : (bytes : List ℕ) → All (λ b. b < 256) bytes → bytes_of (hex_bytes bytes) ≡ Some bytes
bytes_of-hex_bytes [] small = refl
bytes_of-hex_bytes (b ∷ bs) small =
    let byte : b < 256 = All-head (λ x. x < 256) b bs small in
    let high = b / 16 % 16 in
    let low = b / 1 % 16 in
    let whole : 16 * high + low ≡ b = omega arith in
    bytes_of_pair (hex_digit high) (hex_digit low) high low (hex_bytes bs) bs
    (digit_of-hex_digit high (omega arith))
    (digit_of-hex_digit low (omega arith))
    (bytes_of-hex_bytes bs (All-tail (λ x. x < 256) b bs small))
    ∙ ap (λ x. Some (x ∷ bs)) whole

hex_pair : (c d high low : ℕ) → (hex_digit high ≡ c) × (high < 16) → (hex_digit low ≡ d) × (low < 16)
    → hex 2 (16 * high + low) ≡ c ∷ d ∷ []
hex_pair c d high low first second =
    let up : (16 * high + low) / 16 % 16 ≡ high = omega (arith, first.1, second.1) in
    let down : (16 * high + low) / 1 % 16 ≡ low = omega (arith, first.1, second.1) in
    ap (λ x. hex_digit x ∷ hex_digit ((16 * high + low) / 1 % 16) ∷ []) up
    ∙ ap (λ x. hex_digit high ∷ hex_digit x ∷ []) down
    ∙ ap (λ x. x ∷ hex_digit low ∷ []) first.0
    ∙ ap (λ x. c ∷ x ∷ []) second.0

pub hex_bytes-spelled : (text bytes : List ℕ) → bytes_of text ≡ Some bytes → (hex_bytes bytes ≡ text) × All (λ b. b < 256) bytes
hex_bytes-spelled [] bytes read =
    let none : [] ≡ bytes = same_Some [] bytes read in
    rw (← none) (refl, All-nil (λ b. b < 256))
hex_bytes-spelled (c ∷ []) bytes read = cc read
hex_bytes-spelled (c ∷ d ∷ cs) bytes read =
    let high = bind_some (digit_of c) _ bytes read in
    let low = bind_some (digit_of d) _ bytes high.2 in
    let rest = bind_some (bytes_of cs) _ bytes low.2 in
    let up = hex_digit-digit_of c high.0 high.1 in
    let down = hex_digit-digit_of d low.0 low.1 in
    let others = hex_bytes-spelled cs rest.0 rest.1 in
    let all : (16 * high.0 + low.0) ∷ rest.0 ≡ bytes = same_Some ((16 * high.0 + low.0) ∷ rest.0) bytes rest.2 in
    rw (← all) (
      ap (λ xs. xs ++ hex_bytes rest.0) (hex_pair c d high.0 low.0 up down) ∙ ap (λ xs. c ∷ d ∷ xs) others.0,
      All-cons (λ b. b < 256) (16 * high.0 + low.0) rest.0 (omega (arith, up.1, down.1)) others.1,
    )

-- ---- kind and data

content_of_digit : (n : ℕ) (cs : List ℕ) → content_of (hex_digit n ∷ cs) ≡ with_kind Data (hex_digit n ∷ cs)
content_of_digit n cs = rw (hex_digit-letter n, hex_digit-hash n) refl

content_of-data_text : (kind : Kind) (bytes : List ℕ) → remote_fits kind (length bytes) ≡ true → All (λ b. b < 256) bytes
    → content_of (data_text kind bytes) ≡ Some (kind, bytes)
content_of-data_text Data [] fits small = refl
content_of-data_text Data (b ∷ bs) fits small =
    content_of_digit (b / 16 % 16) (hex_digit (b / 1 % 16) ∷ hex_bytes bs)
    ∙ ap (option_map (λ bytes. (Data, bytes))) (bytes_of-hex_bytes (b ∷ bs) small)
content_of-data_text Remote [] fits small = refl
content_of-data_text Remote (b ∷ bs) fits small = absurd (omega (arith, eqb-true (length (b ∷ bs)) 0 fits))
content_of-data_text (Fd true true) bytes fits small = ap (option_map (λ bs. (Fd true true, bs))) (bytes_of-hex_bytes bytes small)
content_of-data_text (Fd true false) bytes fits small = ap (option_map (λ bs. (Fd true false, bs))) (bytes_of-hex_bytes bytes small)
content_of-data_text (Fd false true) bytes fits small = ap (option_map (λ bs. (Fd false true, bs))) (bytes_of-hex_bytes bytes small)
content_of-data_text (Fd false false) bytes fits small = ap (option_map (λ bs. (Fd false false, bs))) (bytes_of-hex_bytes bytes small)

-- the text of this kind and these bytes
abbrev HasText : List ℕ → Kind × List ℕ → Type 0
HasText text content = (data_text content.0 content.1 ≡ text) × All (λ b. b < 256) content.1

flags_of : (n : ℕ) (kind : Kind) → cond (nat_lt n 4) (Some (Fd (n % 2 == 1) (nat_le 2 n))) None ≡ Some kind
    → (brs : Bool) × (esi : Bool) × (kind ≡ Fd brs esi) × (flag brs 1 + flag esi 2 ≡ n)
flags_of zero kind read = (false, false, sym (same_Some (Fd false false) kind read), refl)
flags_of (suc zero) kind read = (true, false, sym (same_Some (Fd true false) kind read), refl)
flags_of (suc (suc zero)) kind read = (false, true, sym (same_Some (Fd false true) kind read), refl)
flags_of (suc (suc (suc zero))) kind read = (true, true, sym (same_Some (Fd true true) kind read), refl)
flags_of (suc (suc (suc (suc n)))) kind read =
    absurd (omega (arith, ltb-true (suc (suc (suc (suc n)))) 4 (cond_some _ _ kind read).0))

fd_text : (brs esi : Bool) (kind : Kind) (n c : ℕ) (bytes cs : List ℕ)
    → kind ≡ Fd brs esi → flag brs 1 + flag esi 2 ≡ n → hex_digit n ≡ c → hex_bytes bytes ≡ cs
    → data_text kind bytes ≡ 35 ∷ c ∷ cs
fd_text brs esi kind n c bytes cs e1 e2 e3 e4 =
    ap (λ k. data_text k bytes) e1
    ∙ ap (λ x. 35 ∷ hex_digit x ∷ hex_bytes bytes) e2
    ∙ ap (λ x. 35 ∷ x ∷ hex_bytes bytes) e3
    ∙ ap (λ xs. 35 ∷ c ∷ xs) e4

fd-spelled : (text : List ℕ) (content : Kind × List ℕ) → fd_of text ≡ Some content → HasText (35 ∷ text) content
fd-spelled [] content read = cc read
fd-spelled (c ∷ cs) content read =
    let kind = bind_some (fd_kind_of c) (λ k. with_kind k cs) content read in
    let bytes = map_some (bytes_of cs) (λ bs. (kind.0, bs)) content kind.2 in
    let digit = bind_some (digit_of c) _ kind.0 kind.1 in
    let flags = flags_of digit.0 kind.0 digit.2 in
    let others = hex_bytes-spelled cs bytes.0 bytes.1 in
    rw (← bytes.2) (
      fd_text flags.0 flags.1 kind.0 digit.0 c bytes.0 cs flags.2 flags.3 (hex_digit-digit_of c digit.0 digit.1).0 others.0,
      others.1,
    )

remote-spelled : (text : List ℕ) (content : Kind × List ℕ) → remote_of text ≡ Some content → HasText (82 ∷ text) content
remote-spelled [] content read =
    let nothing : (Remote, []) ≡ content = same_Some (Remote, []) content read in
    rw (← nothing) (refl, All-nil (λ b. b < 256))
remote-spelled (c ∷ cs) content read = cc read

content_step : (letter hash : Bool) (c : ℕ) (cs : List ℕ) (content : Kind × List ℕ)
    → (letter ≡ true → c ≡ 82)
    → (hash ≡ true → c ≡ 35)
    → cond letter (remote_of cs) (cond hash (fd_of cs) (with_kind Data (c ∷ cs))) ≡ Some content
    → HasText (c ∷ cs) content
content_step true hash c cs content is_letter is_hash read = rw (is_letter refl) (remote-spelled cs content read)
content_step false true c cs content is_letter is_hash read = rw (is_hash refl) (fd-spelled cs content read)
content_step false false c cs content is_letter is_hash read =
    let bytes = map_some (bytes_of (c ∷ cs)) (λ bs. (Data, bs)) content read in
    rw (← bytes.2) (hex_bytes-spelled (c ∷ cs) bytes.0 bytes.1)

data_text-spelled : (text : List ℕ) (content : Kind × List ℕ) → content_of text ≡ Some content → HasText text content
data_text-spelled [] content read =
    let nothing : (Data, []) ≡ content = same_Some (Data, []) content read in
    rw (← nothing) (refl, All-nil (λ b. b < 256))
data_text-spelled (c ∷ cs) content read = content_step (c == 82) (c == 35) c cs content (eqb-true c 82) (eqb-true c 35) read

-- ---- identifiers

cut-identifier_text : (ext : Bool) (id : ℕ) (rest : List ℕ)
    → cut 35 (identifier_text ext id ++ codes "#" ++ rest) ≡ Some (identifier_text ext id, rest)
cut-identifier_text false id rest = cut-hex 3 id rest
cut-identifier_text true id rest = cut-hex 8 id rest

format_of-identifier_text : (ext : Bool) (id : ℕ) → format_of (length (identifier_text ext id)) ≡ Some ext
format_of-identifier_text false id = refl
format_of-identifier_text true id = refl

number_from-identifier_text : (ext : Bool) (id : ℕ) → identifier_fits ext id ≡ true
    → number_from 0 (identifier_text ext id) ≡ Some id
number_from-identifier_text false id fits = number_from-hex 3 0 id ∙ ap Some (omega (arith, leb-true id 0x7ff fits))
number_from-identifier_text true id fits = number_from-hex 8 0 id ∙ ap Some (omega (arith, leb-true id 0x1fffffff fits))

format_step : (three eight : Bool) (n id : ℕ) (ext : Bool) → (three ≡ true → n ≡ 3) → (eight ≡ true → n ≡ 8)
    → cond three (Some false) (cond eight (Some true) None) ≡ Some ext
    → identifier_text ext id ≡ hex n id
format_step true eight n id ext is_three is_eight read =
    let base : false ≡ ext = same_Some false ext read in
    rw (← base) (ap (λ w. hex w id) (sym (is_three refl)))
format_step false true n id ext is_three is_eight read =
    let extended : true ≡ ext = same_Some true ext read in
    rw (← extended) (ap (λ w. hex w id) (sym (is_eight refl)))
format_step false false n id ext is_three is_eight read = cc read

identifier_text-spelled : (digits : List ℕ) (ext : Bool) (id : ℕ)
    → format_of (length digits) ≡ Some ext → number_from 0 digits ≡ Some id → identifier_text ext id ≡ digits
identifier_text-spelled digits ext id format read =
    let n = length digits in
    format_step (n == 3) (n == 8) n id ext (eqb-true n 3) (eqb-true n 8) format
    ∙ (number_from-spelled digits 0 id read).0

-- ---- frames

frame_of_parts : (text : List ℕ) (parts : List ℕ × List ℕ) (ext : Bool) (id : ℕ) (content : Kind × List ℕ)
    → cut 35 text ≡ Some parts
    → format_of (length parts.0) ≡ Some ext
    → number_from 0 parts.0 ≡ Some id
    → content_of parts.1 ≡ Some content
    → frame_of text ≡ if_well_formed (record { id = id; ext = ext; kind = content.0; bytes = content.1 })
unfolding frame_of
frame_of_parts text parts ext id content e1 e2 e3 e4 = rw (e1, e2, e3, e4) refl

-- each frame is read from its text
pub frame_of_from_spells : (text : List ℕ) (f : Frame) → Spells text f → frame_of text ≡ Some f
frame_of_from_spells text f spells =
    let n = length f.bytes in
    let fits = and_parts (identifier_fits f.ext f.id && remote_fits f.kind n) (length_fits f.kind n) spells.well_formed in
    let parts = and_parts (identifier_fits f.ext f.id) (remote_fits f.kind n) fits.0 in
    ap frame_of (sym spells.spelled)
    ∙ frame_of_parts (frame_text f) (identifier_text f.ext f.id, data_text f.kind f.bytes) f.ext f.id (f.kind, f.bytes)
    (cut-identifier_text f.ext f.id (data_text f.kind f.bytes))
    (format_of-identifier_text f.ext f.id)
    (number_from-identifier_text f.ext f.id parts.0)
    (content_of-data_text f.kind f.bytes parts.1 spells.bytes)
    ∙ ap (λ fit. cond fit (Some f) None) spells.well_formed

joined : (front back text first second : List ℕ) → first ≡ front → second ≡ back → text ≡ front ++ 35 ∷ back
    → first ++ codes "#" ++ second ≡ text
joined front back text first second e1 e2 whole =
    ap (λ xs. xs ++ codes "#" ++ second) e1
    ∙ ap (λ ys. front ++ codes "#" ++ ys) e2
    ∙ append_assoc front (codes "#") back
    ∙ sym whole

-- what is read has that text
pub spells_from_frame_of : (text : List ℕ) (f : Frame) → frame_of text ≡ Some f → Spells text f
unfolding frame_of
spells_from_frame_of text f read =
    let parts = bind_some (cut 35 text) _ f read in
    let format = bind_some (format_of (length parts.0.0)) _ f parts.2 in
    let number = bind_some (number_from 0 parts.0.0) _ f format.2 in
    let content = bind_some (content_of parts.0.1) _ f number.2 in
    let g : Frame = record { id = number.0; ext = format.0; kind = content.0.0; bytes = content.0.1 } in
    let fit = cond_some (is_well_formed g) g f content.2 in
    let texts = data_text-spelled parts.0.1 content.0 content.1 in
    let digits = identifier_text-spelled parts.0.0 format.0 number.0 format.1 number.1 in
    let whole : Spells text g = record {
      well_formed = fit.0;
      bytes = texts.1;
      spelled = joined parts.0.0 parts.0.1 text _ _ digits texts.0 (cut-spelled 35 text parts.0 parts.1);
    } in
    subst (Spells text) fit.1 whole

-- a text is that of one frame
pub same_from_spells : (text : List ℕ) (f g : Frame) → Spells text f → Spells text g → f ≡ g
same_from_spells text f g one other =
    same_Some f g (sym (frame_of_from_spells text f one) ∙ frame_of_from_spells text g other)
