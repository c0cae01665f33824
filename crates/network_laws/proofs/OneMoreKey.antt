-- One more key that isn't read.
use Rattle.std.proofs.Common.{◌≡◌, ℕ, false, List, codes, inl}
use Rattle.toml.specs.Data.{Data, Members, member, same_key}
use Rattle.description_laws.proofs.OneMoreKey.{skipped}
use Rattle.description_laws.proofs.Steps.{either_false}
use Rattle.network_laws.specs.Keys.{TellTheSame, is_read}

pub one_more : (key : List ℕ) (d : Data) (t : Members) → is_read key ≡ false → TellTheSame (member key d t) t
one_more key d t h =
    let resolution = either_false (same_key (codes "resolution") key) _ h in
    let stop = either_false (same_key (codes "stop") key) _ resolution.1 in
    let events = either_false (same_key (codes "events") key) _ stop.1 in
    let fuel = either_false (same_key (codes "fuel") key) _ events.1 in
    let buses = either_false (same_key (codes "bus") key) _ fuel.1 in
    let nodes = either_false (same_key (codes "node") key) _ buses.1 in
    let errors = either_false (same_key (codes "error") key) _ nodes.1 in
    record {
      top = (
        skipped (codes "resolution") key d t resolution.0,
        (
          skipped (codes "stop") key d t stop.0,
          (skipped (codes "events") key d t events.0, (skipped (codes "fuel") key d t fuel.0, tt)),
        ),
      );
      buses = inl (skipped (codes "bus") key d t buses.0);
      nodes = inl (skipped (codes "node") key d t nodes.0);
      errors = inl (skipped (codes "error") key d t errors.0);
    }
