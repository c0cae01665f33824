-- Files that begin alike: a module that is cut, and a fault of a section that lies in the file.
use Rattle.std.proofs.Common.{◌≡◌, ℕ, zero, suc, ◌+◌, ◌<◌, ◌≤◌, Bool, true, false, not, List, [], ◌∷◌, ◌++◌, length, take, drop, Result, Ok, Err, refl, sym, ap, subst, ◌∙◌, arith, inl, inr}
use Rattle.std.specs.Prelude.{nat_lt, ◌⊎◌, bytes_eq}
use Rattle.std.proofs.lemmas.Bool.{lt-ltb, le-ltb}
use Rattle.std.proofs.lemmas.List.{append-nil, take_at}
use Rattle.leb_bytes.proofs.Spelled.{IsBytes}
use Rattle.wasm_types.specs.Modules.{NestedModule}
use Rattle.module_specs.specs.declared.fault.Fault.{Fault}
use Rattle.module_specs.specs.declared.fault.Fault.TheVariants as fault
use Rattle.module_specs.specs.declared.section.SectionKind.{SectionKind}
use Rattle.module_specs.specs.Spelling.{Here, SpellsU32}
use Rattle.module_specs.specs.Fronts.{Begins, StatesEnd, after_all}
use Rattle.module_specs.specs.ModuleSpelling.{Section, Before, start, after, SpellsSections, module_of, magic, version, most_bytes}
use Rattle.module_specs.specs.Reading.{Read, ◌>>=◌, refuse_if, u32_at, sized_at}
use Rattle.module_specs.specs.ModuleReading.{section_content_at, kind_of_id, known, falls, section_at, with_section, sections_at, lacks_bodies, rest_at, differs, module_read}
use Rattle.module_specs.proofs.Places.{goes_past, here_first, here_second, same_text, byte_again, byte_here}
use Rattle.module_specs.proofs.Readers.{u32_tells, full_at}
use Rattle.module_specs.proofs.Modules.{counted, module_here}
use Rattle.module_specs.proofs.Regions.{take_fits, region_size, narrow, widen}
use Rattle.module_specs.proofs.Sections.{BodiesTell, section_again, sections_again, sections_then, more_or_end}

-- ---- the header

has_magic : (b : List ℕ) → Here b 0 (magic ++ version) 8 → differs b 0 magic ≡ false
has_magic b h = ap (λ l. not (bytes_eq (take 4 l) magic)) h.whole

has_version : (b : List ℕ) → Here b 0 (magic ++ version) 8 → differs b 4 version ≡ false
has_version b h = ap (λ l. not (bytes_eq (take 4 l) version)) (here_second b 0 8 magic version h).whole

-- behind a header it is the sections that count
behind_header : (b : List ℕ) → length b ≤ most_bytes → Here b 0 (magic ++ version) 8 → module_read b ≡ rest_at b 8
unfolding module_read
behind_header b small h =
    goes_past (nat_lt most_bytes (length b)) (fault.Size most_bytes) (λ small. first_then) (le-ltb most_bytes (length b) small)
    ∙ goes_past (differs b 0 magic) (fault.Magic 0) (λ wasm. second_then) (has_magic b h)
    ∙ goes_past (differs b 4 version) (fault.Version 4) (λ first. rest_at b 8) (has_version b h)
  where
    second_then : Result NestedModule Fault
    second_then = refuse_if (differs b 4 version) (fault.Version 4) >>= λ first. rest_at b 8

    first_then : Result NestedModule Fault
    first_then = refuse_if (differs b 0 magic) (fault.Magic 0) >>= λ wasm. second_then

-- a text in the front that two files share lies in both
shared : (b c : List ℕ) (stop : ℕ) → stop ≤ length b → stop ≤ length c → take stop c ≡ take stop b → (at next : ℕ) (text : List ℕ) → next ≤ stop → Here b at text next → Here c at text next
shared b c stop in_b in_c same at next text small h =
    widen c stop in_c at next text (subst (λ l. Here l at text next) (sym same) (narrow b stop in_b at next text small h))

take_all : (l : List ℕ) (n : ℕ) → n ≡ length l → take n l ≡ l
take_all l n e = ap (take n) (sym (append-nil l)) ∙ take_at l [] n (sym e)

-- a section whose end lies in the file is read alike from the front of the file up to there
module _ (b : List ℕ) (fits : IsBytes b) (s : Before) (at stop : ℕ) (states : StatesEnd b at stop) (inside : stop ≤ length b) where
  states_here : (id_text : Here b at (states.id ∷ []) (at + 1)) → (text : List ℕ) × Here b (at + 1) text states.next × SpellsU32 states.size text
  states_here h = u32_tells.here b fits (at + 1) states.next states.size h.within states.size_is

-- what a section is, once its id, its size and its content's region are known
abbrev content_then : Before → List ℕ → ℕ → ℕ → ℕ → ℕ → SectionKind → Read Section
content_then s region at id next stop k =
    refuse_if (falls s.last k) (fault.Order at) >>= λ rising. section_content_at s at k region next >>= full_at (fault.Size at) stop

section_is : (s : Before) (c : List ℕ) (at stop : ℕ) (states : StatesEnd c at stop) → stop ≤ length c
    → section_at s c at ≡ known at (kind_of_id states.id) >>= content_then s (take stop c) at states.id states.next stop
unfolding section_at sized_at
section_is s c at stop states inside =
    ap (λ r. r >>= id_then) states.id_is
    ∙ by_kind (known at (kind_of_id states.id))
  where
    sized : SectionKind → ℕ → Read Section
    sized k p = u32_at c p >>= λ size. refuse_if (nat_lt (length c) (size.1 + size.0)) (fault.Short (size.1 + size.0)) >>= λ fine. section_content_at s at k (take (size.1 + size.0) c) size.1 >>= full_at (fault.Size at) (size.1 + size.0)

    id_then : ℕ × ℕ → Read Section
    id_then id = known at (kind_of_id id.0) >>= λ k. refuse_if (falls s.last k) (fault.Order at) >>= λ rising. sized k id.1

    with_end : (k : SectionKind) → ℕ → Read Section
    with_end k end = section_content_at s at k (take end c) states.next >>= full_at (fault.Size at) end

    sized_is : (k : SectionKind) → sized k (at + 1) ≡ section_content_at s at k (take stop c) states.next >>= full_at (fault.Size at) stop
    sized_is k =
        ap (λ r. r >>= λ size. refuse_if (nat_lt (length c) (size.1 + size.0)) (fault.Short (size.1 + size.0)) >>= λ fine. section_content_at s at k (take (size.1 + size.0) c) size.1 >>= full_at (fault.Size at) (size.1 + size.0)) states.size_is
        ∙ goes_past (nat_lt (length c) (states.next + states.size)) (fault.Short (states.next + states.size)) (λ fine. with_end k (states.next + states.size)) (le-ltb (length c) (states.next + states.size) (omega (arith, states.end_is)))
        ∙ ap (with_end k) (sym states.end_is)

    by_kind : (r : Result SectionKind Fault) → r >>= (λ k. refuse_if (falls s.last k) (fault.Order at) >>= λ rising. sized k (at + 1)) ≡ r >>= content_then s (take stop c) at states.id states.next stop
    by_kind (Err e) = refl
    by_kind (Ok k) = ap (λ r. refuse_if (falls s.last k) (fault.Order at) >>= λ rising. r) (sized_is k)

module _ (tell : BodiesTell) where
  -- sections that are spelled lead to what stands behind them
  leads_to_fault : (c : List ℕ) (e : Fault) (at : ℕ) → at < length c → (xs : List Section) (n : ℕ) (s : Before) (from : ℕ) (text : List ℕ) → length c ≤ n + from → SpellsSections s xs text → Here c from text at
      → section_at (after_all xs s) c at ≡ Err e → sections_at n s c from ≡ Err e
  unfolding sections_at
  leads_to_fault c e at lt [] zero s from text enough t h f = absurd (omega (arith, h.size, ap length t))
  leads_to_fault c e at lt [] (suc n) s from text enough t h f =
      let is : at ≡ from = omega (arith, h.size, ap length t) in
      ap (λ t. more_or_end tell t n s c from) (lt-ltb from (length c) (omega arith))
      ∙ ap (λ r. r >>= sections_then tell n s c) (ap (section_at s c) (sym is) ∙ f)
  leads_to_fault c e at lt (x ∷ xs) zero s from text enough t h f = absurd (omega (arith, h.size))
  leads_to_fault c e at lt (x ∷ xs) (suc n) s from text enough t h f =
      let k = same_text c from at text (t.0 ++ t.1) t.2 h in
      let mid = from + length t.0 in
      let r = t.3.1 in
      let some : 0 < length t.0 = omega (arith, ap length r.1) in
      let h1 = here_first c from at t.0 t.1 k in
      ap (λ t. more_or_end tell t n s c from) (lt-ltb from (length c) (omega (arith, h1.within)))
      ∙ ap (λ r. r >>= sections_then tell n s c) (section_again tell s c from mid x t.0 t.3 h1)
      ∙ ap (λ r. r >>= with_section x) (leads_to_fault c e at lt xs n (after x s) mid t.1 (omega arith) t.4 (here_second c from at t.0 t.1 k) f)

  -- A fault in a section whose stated end lies in the file is that of every file that begins so.
  pub same_fault : (b c : List ℕ) → IsBytes b → (xs : List Section) (at stop : ℕ) (e : Fault) → Begins b xs at → StatesEnd b at stop → stop ≤ length b
      → section_at (after_all xs start) b at ≡ Err e → length c ≤ most_bytes → stop ≤ length c → take stop c ≡ take stop b → module_read c ≡ Err e
  unfolding rest_at
  same_fault b c fits xs at stop e begins states in_b f small in_c same =
      let s = after_all xs start in
      let h0 = byte_here b at (at + 1) states.id states.id_is in
      let h1 = states_here b fits s at stop states in_b h0 in
      let next_small : states.next ≤ stop = omega (arith, states.end_is) in
      let id_small : at + 1 ≤ stop = omega (arith, next_small, h1.1.size) in
      let c0 = shared b c stop in_b in_c same at (at + 1) (states.id ∷ []) id_small h0 in
      let c1 = shared b c stop in_b in_c same (at + 1) states.next h1.0 next_small h1.1 in
      let states_c : StatesEnd c at stop = record {
        id = states.id;
        size = states.size;
        next = states.next;
        id_is = byte_again c at (at + 1) states.id [] c0;
        size_is = u32_tells.again c (at + 1) states.next states.size h1.0 h1.2 c1;
        end_is = states.end_is;
      } in
      let here : Here c 8 begins.text at = shared b c stop in_b in_c same 8 at begins.text (omega arith) begins.here in
      let header : Here c 0 (magic ++ version) 8 = shared b c stop in_b in_c same 0 8 (magic ++ version) (omega (arith, begins.here.size)) begins.header in
      let section : section_at s c at ≡ Err e =
      section_is s c at stop states_c in_c
      ∙ ap (λ r. known at (kind_of_id states.id) >>= content_then s r at states.id states.next stop) same
      ∙ sym (section_is s b at stop states in_b) ∙ f in
      behind_header c small header
      ∙ ap (λ r. r >>= counted tell c) (leads_to_fault c e at (omega (arith, c0.within)) xs (length c) start 8 begins.text (omega arith) begins.spelled here section)

  -- A module that is cut behind its header or a section is a module of its own, or has too few bodies.
  pub cut_behind : (b : List ℕ) (xs : List Section) (n : ℕ) → n ≤ most_bytes → Begins b xs n → (module_read (take n b) ≡ Ok (module_of xs)) ⊎ (module_read (take n b) ≡ Err (fault.Count n))
  unfolding rest_at
  cut_behind b xs n small begins =
      let inside : n ≤ length b = begins.here.within in
      let front = take n b in
      let size : length front ≡ n = region_size b n inside in
      let header = narrow b n inside 0 8 (magic ++ version) (omega (arith, begins.here.size)) begins.header in
      let here = subst (Here front 8 begins.text) (sym size) (narrow b n inside 8 n begins.text (omega arith) begins.here) in
      let read : module_read front ≡ counted tell front (xs, length front) =
      behind_header front (omega (arith, size)) header
      ∙ ap (λ r. r >>= counted tell front) (sections_again tell (length front) start front xs 8 begins.text (omega arith) begins.spelled here) in
      by_count front size read (lacks_bodies xs) refl
    where
      by_count : (front : List ℕ) → length front ≡ n → module_read front ≡ counted tell front (xs, length front) → (t : Bool) → lacks_bodies xs ≡ t
          → (module_read front ≡ Ok (module_of xs)) ⊎ (module_read front ≡ Err (fault.Count n))
      by_count front size read true is =
          inr (read ∙ ap (λ t. refuse_if t (fault.Count (length front)) >>= λ fine. Ok (module_of xs)) is ∙ ap (λ n. Err (fault.Count n)) size)
      by_count front size read false is = inl (read ∙ ap (λ t. refuse_if t (fault.Count (length front)) >>= λ fine. Ok (module_of xs)) is)

  -- Where a cut file is a module, the cut is behind its header or a section.
  pub cut_is_behind : (b : List ℕ) → IsBytes b → (n : ℕ) (m : NestedModule) → n ≤ length b → module_read (take n b) ≡ Ok m → (xs : List Section) × Begins b xs n × (m ≡ module_of xs)
  cut_is_behind b fits n m inside e =
      let front = take n b in
      let size : length front ≡ n = region_size b n inside in
      let t = (module_here tell m front (take_fits n b fits) e).1 in
      let sections = t.2 in
      let whole : front ≡ (magic ++ version) ++ t.0 = t.1 in
      let all : Here front 0 ((magic ++ version) ++ t.0) n = record { whole = whole ∙ sym (append-nil ((magic ++ version) ++ t.0)) ∙ ap (λ l. ((magic ++ version) ++ t.0) ++ l) (sym (past front n size)); size = omega (arith, size, ap length whole); within = omega arith } in
      let header = here_first front 0 n (magic ++ version) t.0 all in
      let rest = here_second front 0 n (magic ++ version) t.0 all in
      (sections.0, record { header = widen b n inside 0 8 (magic ++ version) header; text = t.0; here = widen b n inside 8 n t.0 rest; spelled = sections.3 }, sections.1)
    where
      nothing_left : (l : List ℕ) → drop (length l) l ≡ []
      nothing_left [] = refl
      nothing_left (x ∷ l) = nothing_left l

      past : (l : List ℕ) (n : ℕ) → length l ≡ n → drop n l ≡ []
      past l n e = ap (λ n. drop n l) (sym e) ∙ nothing_left l
