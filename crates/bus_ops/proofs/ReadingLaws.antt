-- Readings: the loop's step, and the laws.
use Rattle.std.proofs.Common.{◌≡◌, ℕ, zero, suc, ◌+◌, ◌<◌, ◌≤◌, ◌↔◌, Bool, true, false, cond, ltb, ◌||◌, List, [], ◌∷◌, ◌++◌, length, take, drop, Option, Some, None, refl, sym, ap, subst, ◌∙◌, append_assoc, arith}
use Rattle.std.specs.List.{AllByRecursion}
use Rattle.std.proofs.lemmas.Bool.{false≢true}
use Rattle.std.proofs.lemmas.Bool.Decides.{nat_tests}
use Rattle.std.proofs.lemmas.List.{take_at, drop_at, take-append-drop, length-append, length-take-le, length-drop, take_all, drop_all, append-nil}
use Rattle.std.proofs.lemmas.Nat.{from_le_bytes-to_le_bytes_4}
use Rattle.operation_specs.specs.Operation.{Operation, IsOperation}
use Rattle.operation_specs.specs.Spelling.{code_of, fields_of, spell}
use Rattle.operation_specs.specs.Reading.{Item, Op, Bad, stated_length, is_cut, first_length, IsItem, IsReading, IsWhole}
use Rattle.bus_ops.specs.Fields.{operation_at}
use Rattle.bus_ops.specs.ItemsIn.{item_or_bad, item_in, items_within, items_in}
use Rattle.bus_ops.proofs.FieldLaws.{IsBytes, IsBytes-take, IsBytes-drop}
use Rattle.bus_ops.proofs.OperationLaws.{operation_takes, operation_again, one_spelling, fields_short, length-spelled}

-- ---- how far the first item goes

stated_first : (bytes : List ℕ) (b : Bool) → is_cut bytes ≡ b → first_length bytes ≡ cond b (length bytes) (stated_length bytes)
stated_first bytes b e = ap (λ (v : Bool). cond v (length bytes) (stated_length bytes)) e

first_within : (n s : ℕ) → cond (ltb n 8 || ltb s 8 || ltb n s) n s ≤ n
first_within n s = grind (arith, nat_tests)

pub first_length-le : (bytes : List ℕ) → first_length bytes ≤ length bytes
first_length-le bytes = first_within (length bytes) (stated_length bytes)

uncut : (n s : ℕ) → 8 ≤ s → s ≤ n → (ltb n 8 || ltb s 8 || ltb n s) ≡ false
uncut n s h k = grind (arith, nat_tests)

-- a spelling states its own length
spell_states : (op : Operation) (rest : List ℕ) → IsOperation op → stated_length (spell op ++ rest) ≡ length (spell op)
unfolding spell
spell_states op rest w =
    let short = fields_short op w in
    from_le_bytes-to_le_bytes_4 (8 + length (fields_of op)) (omega arith) ∙ sym (length-spelled (code_of op) (fields_of op))

spell_long : (op : Operation) → 8 ≤ length (spell op)
unfolding spell
spell_long op = let e = length-spelled (code_of op) (fields_of op) in omega arith

spell_uncut : (op : Operation) (rest : List ℕ) → IsOperation op → is_cut (spell op ++ rest) ≡ false
spell_uncut op rest w =
    let s = spell_states op rest w in
    let l = spell_long op in
    let n = length-append (spell op) rest in
    uncut (length (spell op ++ rest)) (stated_length (spell op ++ rest)) (omega arith) (omega arith)

first_of_spell : (op : Operation) (rest : List ℕ) → IsOperation op → first_length (spell op ++ rest) ≡ length (spell op)
first_of_spell op rest w = stated_first (spell op ++ rest) false (spell_uncut op rest w) ∙ spell_states op rest w

-- ---- one item

pub none_spelled : (bytes : List ℕ) → operation_at bytes ≡ None → (op : Operation) → IsOperation op → spell op ≡ bytes → ⊥
none_spelled bytes n op w e = let s = operation_again op w in let t = ap operation_at e in absurd cc

one_item : (bytes : List ℕ) (i j : Item) → IsItem bytes i → IsItem bytes j → i ≡ j
one_item bytes (Op op) (Op other) p q = ap (λ (o : Operation). Op o) (one_spelling op other p.0 q.0 (p.1 ∙ sym q.1))
one_item bytes (Op op) (Bad held) p q = absurd (q.1 op p.0 p.1)
one_item bytes (Bad held) (Op op) p q = absurd (p.1 op q.0 q.1)
one_item bytes (Bad held) (Bad other) p q = ap (λ (b : List ℕ). Bad b) (p.0 ∙ sym q.0)

-- ---- the loop

pub reads_more : (bytes rest : List ℕ) (so_far : List Item) (i : Item) → ((more : List Item) → IsReading rest more → IsReading bytes (so_far ++ more))
    → 0 < length rest → IsItem (take (first_length rest) rest) i
    → (more : List Item) → IsReading (drop (first_length rest) rest) more → IsReading bytes ((so_far ++ i ∷ []) ++ more)
reads_more bytes rest so_far i inv some item more h = rw append_assoc (inv (i ∷ more) (some, item, h))

pub reads_all : (bytes rest : List ℕ) (so_far items : List Item) → ((more : List Item) → IsReading rest more → IsReading bytes (so_far ++ more))
    → rest ≡ [] → items ≡ so_far → IsReading bytes items
reads_all bytes rest so_far items inv e is = rw (is, ← append-nil so_far) (inv [] e)

-- ---- the laws

pub written_reads : (op : Operation) (rest : List ℕ) (items : List Item) → IsOperation op → IsReading rest items → IsReading (spell op ++ rest) (Op op ∷ items)
written_reads op rest items w h =
    let bytes = spell op ++ rest in
    let n = first_of_spell op rest w in
    let l = spell_long op in
    let k = length-append (spell op) rest in
    let front : take (first_length bytes) bytes ≡ spell op = rw n (take_at (spell op) rest (length (spell op)) refl) in
    let behind : drop (first_length bytes) bytes ≡ rest = rw n (drop_at (spell op) rest (length (spell op)) refl) in
    (omega arith, (w, sym front), rw behind h)

starts_alike : (op : Operation) (rest : List ℕ) (items : List Item) → IsOperation op → IsReading (spell op ++ rest) items
    → (others : List Item) × (items ≡ Op op ∷ others) × IsReading rest others
starts_alike op rest [] w h = let l = spell_long op in let k = length-append (spell op) rest in let e : length (spell op ++ rest) ≡ 0 = ap length h in absurd (omega arith)
starts_alike op rest (i ∷ is) w h =
    let bytes = spell op ++ rest in
    let n = first_of_spell op rest w in
    let front : take (first_length bytes) bytes ≡ spell op = rw n (take_at (spell op) rest (length (spell op)) refl) in
    let behind : drop (first_length bytes) bytes ≡ rest = rw n (drop_at (spell op) rest (length (spell op)) refl) in
    let same = one_item (take (first_length bytes) bytes) i (Op op) h.1 (w, sym front) in
    (is, ap (λ (x : Item). x ∷ is) same, subst (λ (r : List ℕ). IsReading r is) behind h.2)

pub written_is : (op : Operation) (rest : List ℕ) (items : List Item) → IsOperation op
    → IsReading (spell op ++ rest) items ↔ ((others : List Item) × (items ≡ Op op ∷ others) × IsReading rest others)
written_is op rest items w =
    (starts_alike op rest items w, λ x. subst (λ (all : List Item). IsReading (spell op ++ rest) all) (sym x.1) (written_reads op rest x.0 w x.2))

pub read_begins : (bytes : List ℕ) (op : Operation) (items : List Item) → IsReading bytes (Op op ∷ items) → bytes ≡ spell op ++ drop (length (spell op)) bytes
read_begins bytes op items h =
    let n = first_length bytes in
    let e : spell op ≡ take n bytes = h.1.1 in
    let le = first_length-le bytes in
    let k : length (spell op) ≡ n = ap length e ∙ length-take-le n bytes le in
    rw (k, e) (sym (take-append-drop n bytes))

pub readings_same : (bytes : List ℕ) (items others : List Item) → IsReading bytes items → IsReading bytes others → items ≡ others
readings_same bytes [] [] p q = refl
readings_same bytes [] (j ∷ js) p q = let e : length bytes ≡ 0 = ap length p in let l = q.0 in absurd (omega arith)
readings_same bytes (i ∷ is) [] p q = let e : length bytes ≡ 0 = ap length q in let l = p.0 in absurd (omega arith)
readings_same bytes (i ∷ is) (j ∷ js) p q =
    let a = one_item (take (first_length bytes) bytes) i j p.1 q.1 in
    let b = readings_same (drop (first_length bytes) bytes) is js p.2 q.2 in
    ap (λ (x : Item). x ∷ is) a ∙ ap (λ (xs : List Item). j ∷ xs) b

pub cut_reads : (bytes : List ℕ) → is_cut bytes ≡ true → 0 < length bytes → IsReading bytes (Bad bytes ∷ [])
cut_reads bytes c some =
    let n = stated_first bytes true c in
    let front : take (first_length bytes) bytes ≡ bytes = rw n (take_all (length bytes) bytes (omega arith)) in
    let behind : drop (first_length bytes) bytes ≡ [] = rw n (drop_all (length bytes) bytes (omega arith)) in
    let none : (op : Operation) → IsOperation op → spell op ≡ bytes → ⊥ =
    λ op w e.
    let u : is_cut (spell op) ≡ false = ap is_cut (sym (append-nil (spell op))) ∙ spell_uncut op [] w in
    false≢true (sym u ∙ ap is_cut e ∙ c) in
    (some, (sym front, λ op w e. none op w (e ∙ front)), behind)

first_some : (n s : ℕ) → 0 < n → 0 < cond (ltb n 8 || ltb s 8 || ltb n s) n s
first_some n s h = grind (arith, nat_tests)

whole_item : (bytes : List ℕ) (n : ℕ) (i : Item) → 0 < n → n ≤ length bytes → IsItem (take n bytes) i → IsWhole i
whole_item bytes n (Op op) some le h = h.0
whole_item bytes n (Bad held) some le h = let e = ap length h.0 in let k = length-take-le n bytes le in omega arith

pub reads_whole : (bytes : List ℕ) (items : List Item) → IsReading bytes items → AllByRecursion IsWhole items
reads_whole bytes [] h = tt
reads_whole bytes (i ∷ is) h =
    let n = first_length bytes in
    (whole_item bytes n i (first_some (length bytes) (stated_length bytes) h.0) (first_length-le bytes) h.1, reads_whole (drop n bytes) is h.2)

-- ---- each list of bytes has a reading

IsBytes-from_all : (bytes : List ℕ) → AllByRecursion (λ b. b < 256) bytes → IsBytes bytes
IsBytes-from_all [] h i = omega arith
IsBytes-from_all (b ∷ bytes) h zero = h.0
IsBytes-from_all (b ∷ bytes) h (suc i) = IsBytes-from_all bytes h.1 i

taken_is : (bytes : List ℕ) (o : Option Operation) → operation_at bytes ≡ o → IsBytes bytes → IsItem bytes (item_or_bad o bytes)
taken_is bytes (Some op) e h = operation_takes bytes op h e
taken_is bytes None e h = (refl, none_spelled bytes e)

item_is : (bytes : List ℕ) → IsBytes bytes → IsItem bytes (item_in bytes)
unfolding item_in
item_is bytes h = taken_is bytes (operation_at bytes) refl h

reading_within : (limit : ℕ) (bytes : List ℕ) → length bytes ≤ limit → IsBytes bytes → IsReading bytes (items_within limit bytes)
unfolding items_within
reading_within limit [] le h = refl
reading_within zero (b ∷ bytes) le h = absurd (omega arith)
reading_within (suc limit) (b ∷ bytes) le h =
    let all = b ∷ bytes in
    let n = first_length all in
    let some : 0 < n = first_some (length all) (stated_length all) (omega arith) in
    let shorter : length (drop n all) ≤ limit = let k = length-drop n all in omega arith in
    (omega arith, item_is (take n all) (IsBytes-take n all h), reading_within limit (drop n all) shorter (IsBytes-drop n all h))

pub reading_of : (bytes : List ℕ) → IsBytes bytes → IsReading bytes (items_in bytes)
unfolding items_in
reading_of bytes h = reading_within (length bytes) bytes (omega arith) h

pub has_reading : (bytes : List ℕ) → AllByRecursion (λ b. b < 256) bytes → IsReading bytes (items_in bytes)
has_reading bytes h = reading_of bytes (IsBytes-from_all bytes h)
