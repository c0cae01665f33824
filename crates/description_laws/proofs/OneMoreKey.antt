-- One more key that isn't read.
use Rattle.std.proofs.Common.{◌≡◌, ℕ, false, List, Option, Some, refl, codes, inl}
use Rattle.std.specs.declared.cmp.Ordering.{Ordering}
use Rattle.std.specs.declared.cmp.Ordering.TheVariants.{Less, Equal, Greater}
use Rattle.std.specs.Ordering.{nat_cmp, is_eq, match_ordering}
use Rattle.std.specs.Cmp.Lexicographic.{slice_cmp}
use Rattle.toml.specs.Data.{Data, Members, member, get_member, same_key}
use Rattle.description_laws.specs.Keys.{TellTheSame, is_read}
use Rattle.description_laws.proofs.Steps.{either_false}

skipped_at : (o : Ordering) (a : Option Data) (d : Data) → is_eq o ≡ false → match_ordering o a (Some d) a ≡ a
skipped_at Less a d h = refl
skipped_at Equal a d h = absurd (cc)
skipped_at Greater a d h = refl

-- another key has what it had
pub skipped : (k key : List ℕ) (d : Data) (t : Members) → same_key k key ≡ false → get_member k (member key d t) ≡ get_member k t
skipped k key d t h = skipped_at (slice_cmp nat_cmp k key) (get_member k t) d h

pub one_more : (key : List ℕ) (d : Data) (t : Members) → is_read key ≡ false → TellTheSame (member key d t) t
one_more key d t h =
    let version = either_false (same_key (codes "fmiVersion") key) _ h in
    let model = either_false (same_key (codes "modelName") key) _ version.1 in
    let token = either_false (same_key (codes "instantiationToken") key) _ model.1 in
    let unit = either_false (same_key (codes "CoSimulation") key) _ token.1 in
    let clocks = either_false (same_key (codes "Clock") key) _ unit.1 in
    let binaries = either_false (same_key (codes "Binary") key) _ clocks.1 in
    let terminals = either_false (same_key (codes "Terminal") key) _ binaries.1 in
    record {
      head = (
        skipped (codes "fmiVersion") key d t version.0,
        (
          skipped (codes "modelName") key d t model.0,
          (skipped (codes "instantiationToken") key d t token.0, tt),
        ),
      );
      unit = inl (skipped (codes "CoSimulation") key d t unit.0);
      clocks = inl (skipped (codes "Clock") key d t clocks.0);
      binaries = inl (skipped (codes "Binary") key d t binaries.0);
      terminals = inl (skipped (codes "Terminal") key d t terminals.0);
    }
