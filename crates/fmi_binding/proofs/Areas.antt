-- What is read of an area, as pieces.
use Rattle.std.specs.Prelude.{◌≡◌, ℕ, zero, suc, ◌+◌, ◌%◌, ◌<◌, ◌≤◌, ◌^◌, Bool, true, false, List, [], ◌∷◌, Option, None, Some, Result, Ok, Err, map, option_map, nat_le, slice_get, refl}
use Rattle.std.proofs.Common.{sym, ap, ◌∙◌, subst, arith, get_or}
use Rattle.std.proofs.lemmas.Bool.{leb-true}
use Rattle.fmi_states.specs.declared.reply.Qualifier.TheVariants.{NotYetKnown, Unchanged, Changed}
use Rattle.fmi_states.specs.declared.reply.Broken.{Broken}
use Rattle.fmi_states.specs.declared.reply.Broken.TheVariants.{BadReply, BadBuffer}
use Rattle.code_specs.specs.Stores.{number_of_bytes, bytes_at}
use Rattle.binding_specs.specs.Pieces.{gives, wanted}
use Rattle.binding_specs.specs.Exchanges.{bytes_in_area, number_in_area, flag_in_area, qualifier_in_area, bytes_if, binary_in_area}
use Rattle.fmi_binding.specs.Coming.{Held, work_with, Comes, then_in, wanted_in}
use Rattle.fmi_binding.proofs.Coming.{comes_on, comes_broken, comes_then, gives_comes, breaks_comes, wanted_comes}

pub each_byte : (bs : List ℕ) → ((i : ℕ) → get_or bs i 0 < 256) → map (λ b. b % 256) bs ≡ bs
each_byte [] small = refl
each_byte (b ∷ bs) small =
    let first : b < 256 = small 0 in
    let same : b % 256 ≡ b = omega (arith, first) in
    ap (λ n. n ∷ map (λ b. b % 256) bs) same ∙ ap (λ (l : List ℕ). b ∷ l) (each_byte bs (λ i. small (suc i)))

pub nothing_there : (place count : ℕ) (h : Held) → None ≡ bytes_at h.store.bytes (h.area + place) count
    → Comes (bytes_in_area place count) h h (Err BadBuffer)
nothing_there place count h e = record {
  each = λ used. (
    used,
    ap (λ (o : Option (List ℕ)). wanted BadBuffer (option_map (map (λ b. b % 256)) o) (work_with h used)) (sym e),
  );
}

pub bytes_there : (place count : ℕ) (h : Held) (bytes : List ℕ) → Some bytes ≡ bytes_at h.store.bytes (h.area + place) count
    → map (λ b. b % 256) bytes ≡ bytes
    → Comes (bytes_in_area place count) h h (Ok bytes)
bytes_there place count h bytes e same = record {
  each = λ used. (
    used,
    ap (λ (o : Option (List ℕ)). wanted BadBuffer (option_map (map (λ b. b % 256)) o) (work_with h used)) (sym e)
        ∙ ap (λ (l : List ℕ). wanted BadBuffer (Some l) (work_with h used)) same,
  );
}

pub number_there : (place count : ℕ) (h : Held) (bytes : List ℕ) → Comes (bytes_in_area place count) h h (Ok bytes)
    → Comes (number_in_area place count) h h (Ok (number_of_bytes bytes))
number_there place count h bytes read =
    comes_on (bytes_in_area place count) (λ bytes. gives (number_of_bytes bytes)) h h h bytes (Ok (number_of_bytes bytes)) read
    (gives_comes (number_of_bytes bytes) h)

pub no_number : (place count : ℕ) (h : Held) (why : Broken) → Comes (bytes_in_area place count) h h (Err why)
    → Comes (number_in_area place count) h h (Err why)
no_number place count h why read = comes_broken (bytes_in_area place count) (λ bytes. gives (number_of_bytes bytes)) h h why read

pub flag_there : (place : ℕ) (h : Held) (r : Result ℕ Broken) → Comes (number_in_area place 4) h h r
    → Comes (flag_in_area place) h h (then_in r (λ n. wanted_in BadReply (slice_get (false ∷ true ∷ []) n)))
flag_there place h r read =
    comes_then (number_in_area place 4) (λ n. wanted BadReply (slice_get (false ∷ true ∷ []) n)) h h r
    (λ n. wanted_in BadReply (slice_get (false ∷ true ∷ []) n))
    read (λ n. wanted_comes BadReply (slice_get (false ∷ true ∷ []) n) h)

pub qualifier_there : (place : ℕ) (h : Held) (r : Result ℕ Broken) → Comes (number_in_area place 4) h h r
    → Comes (qualifier_in_area place) h h (then_in r (λ n. wanted_in BadReply (slice_get (NotYetKnown ∷ Unchanged ∷ Changed ∷ []) n)))
qualifier_there place h r read =
    comes_then (number_in_area place 4) (λ n. wanted BadReply (slice_get (NotYetKnown ∷ Unchanged ∷ Changed ∷ []) n)) h h r
    (λ n. wanted_in BadReply (slice_get (NotYetKnown ∷ Unchanged ∷ Changed ∷ []) n))
    read (λ n. wanted_comes BadReply (slice_get (NotYetKnown ∷ Unchanged ∷ Changed ∷ []) n) h)

pub no_count : (most : ℕ) (h : Held) (why : Broken) → Comes (number_in_area 0 4) h h (Err why) → Comes (binary_in_area most) h h (Err why)
no_count most h why read = comes_broken (number_in_area 0 4) (λ count. bytes_if (nat_le count most) count) h h why read

pub binary_there : (most count : ℕ) (h : Held) (r : Result (List ℕ) Broken) → Comes (number_in_area 0 4) h h (Ok count)
    → nat_le count most ≡ true
    → Comes (bytes_in_area 64 count) h h r → Comes (binary_in_area most) h h r
binary_there most count h r read fits bytes =
    comes_on (number_in_area 0 4) (λ count. bytes_if (nat_le count most) count) h h h count r read
    (subst (λ b. Comes (bytes_if b count) h h r) (sym fits) bytes)

pub too_many_bytes : (most count : ℕ) (h : Held) → Comes (number_in_area 0 4) h h (Ok count) → nat_le count most ≡ false
    → Comes (binary_in_area most) h h (Err BadBuffer)
too_many_bytes most count h read fits =
    comes_on (number_in_area 0 4) (λ count. bytes_if (nat_le count most) count) h h h count (Err BadBuffer) read
    (subst (λ b. Comes (bytes_if b count) h h (Err BadBuffer)) (sym fits) (breaks_comes BadBuffer h))

-- seven bytes or fewer
pub few_powers : (n : ℕ) → n ≤ 7 → 256 ^ n ≤ 72057594037927936
few_powers zero few = omega arith
few_powers (suc zero) few = omega arith
few_powers (suc (suc zero)) few = omega arith
few_powers (suc (suc (suc zero))) few = omega arith
few_powers (suc (suc (suc (suc zero)))) few = omega arith
few_powers (suc (suc (suc (suc (suc zero))))) few = omega arith
few_powers (suc (suc (suc (suc (suc (suc zero)))))) few = omega arith
few_powers (suc (suc (suc (suc (suc (suc (suc zero))))))) few = omega arith
few_powers (suc (suc (suc (suc (suc (suc (suc (suc n)))))))) few = absurd (omega (arith, few))

pub leb_not : (a b : ℕ) → b < a → nat_le a b ≡ false
leb_not a b lt = go (nat_le a b) refl
  where
    go : (t : Bool) → nat_le a b ≡ t → t ≡ false
    go false is = refl
    go true is = absurd (omega (arith, lt, leb-true a b is))

pub small_number : (r n : ℕ) → r < 256 ^ n → n ≤ 7 → r < 72057594037927936
small_number r n below few = omega (arith, below, few_powers n few)
