-- What a reader of files does to the shelf.
use Rattle.std.specs.Prelude.{◌≡◌, ◌⊎◌, Result, Err}
use Rattle.bench_outside.specs.Causes.{Rose}
use Rattle.bench_outside.specs.declared.shelf.Shelf.{Ghosts as shelf_ghosts}
use Rattle.bench_outside.specs.declared.refusal.FileId.{FileId}
use Rattle.network_folder.specs.declared.error.NetError.{NetError}
use Rattle.network_folder.specs.declared.error.NetError.TheVariants as answer

module _ {H : Type 0} (shelf : shelf_ghosts H) where
  -- Which failed reads an answer has, and what is left. This holds also where nothing is told of contents.
  pub record Reads {X : Type 0} (before now : H) (result : Result X NetError) : Type 0 where
    -- a file couldn't be read: a read failed in this call; and no other answer comes where one did
    pub unread : (file : FileId) → result ≡ Err (answer.Unread file) → Rose (shelf.read_faults before).count (shelf.read_faults now).count
    pub unblamed : ((file : FileId) × (result ≡ Err (answer.Unread file))) ⊎ (shelf.read_faults now ≡ shelf.read_faults before)
    -- the shelf holds what it held, and no write of it failed
    pub holds : shelf.holds now ≡ shelf.holds before
    pub others : shelf.write_faults now ≡ shelf.write_faults before
