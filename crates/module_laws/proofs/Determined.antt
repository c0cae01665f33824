-- What stands at a place is determined: sections, and the module that a file spells.
use Rattle.std.proofs.Common.{◌≡◌, ℕ, ◌+◌, ◌≤◌, List, [], ◌∷◌, ◌++◌, length, take, drop, Result, Ok, Err, refl, sym, ap, subst, ◌∙◌, arith, append_assoc, length-append}
use Rattle.std.proofs.lemmas.List.{take_at}
use Rattle.wasm_types.specs.Modules.{NestedModule}
use Rattle.module_specs.specs.declared.fault.Fault.{Fault}
use Rattle.module_specs.specs.Spelling.{Here}
use Rattle.module_specs.specs.Fronts.{Begins, after_all}
use Rattle.module_specs.specs.ModuleSpelling.{Section, Before, start, after, SpellsSection, SpellsSections, SpellsModule, magic, version}
use Rattle.module_specs.proofs.Places.{ok_is, here_first, here_second, here_join, same_text}
use Rattle.module_specs.proofs.Sections.{BodiesTell, section_again, sections_again}
use Rattle.module_specs.proofs.Modules.{module_again}
use Rattle.wasm_code.proofs.Whole.{body_again, body_here, whole_here}

pub tell : BodiesTell
tell = record {
  again = λ b f at next text s h. body_again b f at next text s h;
  here = λ b fits ty at next f le e. body_here b fits ty at next f le e;
}

pub one_module : (one two : NestedModule) (b : List ℕ) → SpellsModule one b → SpellsModule two b → one ≡ two
one_module one two b s t = ok_is one two (sym (module_again tell one b s) ∙ module_again tell two b t)

-- a fault is no item
pub clash : {A : Type 0} (r : Result A Fault) (e : Fault) (x : A) → r ≡ Err e → r ≡ Ok x → ⊥
clash r e x fails gives = absurd cc

-- ---- sections

module _ (b : List ℕ) (s : Before) (at : ℕ) (x y : Section) (n m : ℕ) (t u : List ℕ) (sx : SpellsSection s x t) (hx : Here b at t n)
    (sy : SpellsSection s y u) (hy : Here b at u m) where
  alike : (let one : Section × ℕ = (x, n) in let two : Section × ℕ = (y, m) in one ≡ two)
  alike = ok_is (x, n) (y, m) (sym (section_again tell s b at n x t sx hx) ∙ section_again tell s b at m y u sy hy)

  pub same_section : x ≡ y
  same_section = ap (λ (p : Section × ℕ). p.0) alike

  pub same_end : n ≡ m
  same_end = ap (λ (p : Section × ℕ). p.1) alike

-- a section takes an id byte at least
pub some_bytes : (s : Before) (x : Section) (text : List ℕ) → SpellsSection s x text → 1 ≤ length text
some_bytes s x text t = let r = t.1 in omega (arith, ap length r.1)

-- sections up to a place, and sections from the same one up to a later place: the latter go on where the former end
pub record GoesOn (b : List ℕ) (xs zs : List Section) (s : Before) (at end : ℕ) : Type 0 where
  pub others : List Section
  pub text : List ℕ
  pub whole : zs ≡ xs ++ others
  pub spelled : SpellsSections (after_all xs s) others text
  pub here : Here b at text end

pub goes_on : (b : List ℕ) (xs zs : List Section) (s : Before) (from at end : ℕ) (front text : List ℕ) → SpellsSections s xs front
    → Here b from front at → SpellsSections s zs text → Here b from text end → at ≤ end
    → GoesOn b xs zs s at end
goes_on b [] zs s from at end front text f hf t ht le =
    let same : from ≡ at = sym (omega (arith, hf.size, ap length f)) in
    record { others = zs; text = text; whole = refl; spelled = t; here = subst (λ (p : ℕ). Here b p text end) same ht }
goes_on b (x ∷ xs) [] s from at end front text f hf t ht le =
    absurd (omega (arith, hf.size, ht.size, ap length t, ap length f.2, length-append f.0 f.1, some_bytes s x f.0 f.3))
goes_on b (x ∷ xs) (z ∷ zs) s from at end front text f hf t ht le =
    let kf = same_text b from at front (f.0 ++ f.1) f.2 hf in
    let kt = same_text b from end text (t.0 ++ t.1) t.2 ht in
    let f0 = here_first b from at f.0 f.1 kf in
    let t0 = here_first b from end t.0 t.1 kt in
    let is : x ≡ z = same_section b s from x z (from + length f.0) (from + length t.0) f.0 t.0 f.3 f0 t.3 t0 in
    let mid : from + length f.0 ≡ from + length t.0 = same_end b s from x z (from + length f.0) (from + length t.0) f.0 t.0 f.3 f0 t.3 t0 in
    let rest = subst (λ (z : Section). SpellsSections (after z s) zs t.1) (sym is) t.4 in
    let here = subst (λ (p : ℕ). Here b p t.1 end) (sym mid) (here_second b from end t.0 t.1 kt) in
    let more = goes_on b xs zs (after x s) (from + length f.0) at end f.1 t.1 f.4 (here_second b from at f.0 f.1 kf) rest here le in
    record {
      others = more.others;
      text = more.text;
      whole = ap (λ (z : Section). z ∷ zs) (sym is)
          ∙ ap (λ l. x ∷ l) more.whole;
      spelled = more.spelled;
      here = more.here;
    }

-- ---- whole texts

-- one text stands between two places
pub one_text : (b : List ℕ) (at end : ℕ) (t u : List ℕ) → Here b at t end → Here b at u end → t ≡ u
one_text b at end t u ht hu =
    let size : length t ≡ length u = omega (arith, ht.size, hu.size) in
    sym (take_at t (drop end b) (length t) refl) ∙ ap (take (length t)) (sym ht.whole ∙ hu.whole)
    ∙ take_at u (drop end b) (length t) (sym size)

-- a text is one list of sections
pub same_sections : (xs ys : List Section) (text : List ℕ) → SpellsSections start xs text → SpellsSections start ys text → xs ≡ ys
same_sections xs ys text s t =
    ap (λ (p : List Section × ℕ). p.0)
    (ok_is (xs, length text) (ys, length text)
    (sym (sections_again tell (length text) start text xs 0 text (omega arith) s (whole_here text))
    ∙ sections_again tell (length text) start text ys 0 text (omega arith) t (whole_here text)))

-- sections behind sections
pub after_both : (xs ys : List Section) (s : Before) → after_all (xs ++ ys) s ≡ after_all ys (after_all xs s)
after_both [] ys s = refl
after_both (x ∷ xs) ys s = after_both xs ys (after x s)

pub spelled_both : (xs ys : List Section) (s : Before) (front text : List ℕ) → SpellsSections s xs front
    → SpellsSections (after_all xs s) ys text → SpellsSections s (xs ++ ys) (front ++ text)
spelled_both [] ys s front text f t = subst (λ l. SpellsSections s ys (l ++ text)) (sym f) t
spelled_both (x ∷ xs) ys s front text f t =
    (f.0, f.1 ++ text, ap (λ l. l ++ text) f.2 ∙ append_assoc f.0 f.1 text, f.3, spelled_both xs ys (after x s) f.1 text f.4 t)

-- a text that ends at a place is what is left of the bytes up to there
pub front_is : (b text : List ℕ) (place : ℕ) → Here b 0 text place → take place b ≡ text
front_is b text place h = ap (take place) h.whole ∙ take_at text (drop place b) place
    (let e : length text ≡ place = omega (arith, h.size) in e)

pub begins_whole : (b : List ℕ) (xs : List Section) (place : ℕ) (begins : Begins b xs place)
    → Here b 0 ((magic ++ version) ++ begins.text) place
begins_whole b xs place begins = here_join b 0 8 place (magic ++ version) begins.text begins.header begins.here

-- a spelled module begins with its sections
pub record Filled (b : List ℕ) : Type 0 where
  pub sections : List Section
  pub begins : Begins b sections (length b)

pub all_begins : (m : NestedModule) (b : List ℕ) → SpellsModule m b → Filled b
all_begins m b s =
    let t = s.1 in
    let whole : b ≡ (magic ++ version) ++ t.0 = t.1 in
    let here : Here b 0 ((magic ++ version) ++ t.0) (length b) = same_text b 0 (length b) b ((magic ++ version) ++ t.0) whole (whole_here b)
    in
    let x = t.2 in
    record {
      sections = x.0;
      begins = record {
        header = here_first b 0 (length b) (magic ++ version) t.0 here;
        text = t.0;
        here = here_second b 0 (length b)
            (magic ++ version) t.0 here;
        spelled = x.3;
      };
    }
