use Rattle.std.proofs.Common.{◌/◌, ◌%◌, ◌+◌, ◌*◌, [], get_or, sym, ap, ◌∙◌, subst, arith}
use Rattle.page_pool.specs.Slots.{names_of}
use Rattle.page_pool.specs.Shared.{HasPlace, table_at, page_bytes, ByteAt}
use Rattle.page_pool.specs.Kept.{Pooled, bytes_at}
use Rattle.page_pool.proofs.Sound.{page_within}
use Rattle.page_pool.proofs.Owning.{place_again}
use Rattle.page_pool.proofs.Bytes.{reads_at}
use Rattle.page_pool.proofs.pool.Pool.read.Goals as goal

pub byte_at-requires-clause-page : goal.byte_at-requires-clause-page
byte_at-requires-clause-page c =
    let names = names_of c.self.inside.tables.items in
    let place : HasPlace (table_at names c.args.table) (c.args.at / 4096) = rw (← c.self.view_is) at c.requires in
    let h = page_within names c.self.inside.pages.items c.self.inside.owners.items c.args.table
    (c.args.at / 4096) c.self.invariant.sound place in
    omega (arith, h, c.name_of-page.ensures)

pub returns : goal.returns
returns c =
    let names = names_of c.self.inside.tables.items in
    let place : HasPlace (table_at names c.args.table) (c.args.at / 4096) = rw (← c.self.view_is) at c.requires in
    let h = reads_at names c.self.inside.pages.items c.self.inside.owners.items c.args.table 4096 (c.args.at / 4096)
    (c.args.at % 4096) c.self.invariant.sound c.self.invariant.long place (omega arith) in
    let e = c.byte_at.ensures ∙ ap (λ p. get_or (page_bytes c.self.inside.pages.items p) (c.args.at % 4096) 0) c.name_of-page.ensures in
    let view = ap (λ (p : Pooled). bytes_at p c.args.table) c.self.view_is in
    subst (λ b. ByteAt b c.args.at c.byte_at.result) view
    (subst (λ a. ByteAt (bytes_at
    (record { tables = names; rooms = []; pages = c.self.inside.pages.items }) c.args.table) a c.byte_at.result) (place_again c.args.at)
    (subst (λ v. ByteAt (bytes_at (record { tables = names; rooms = []; pages = c.self.inside.pages.items }) c.args.table)
    (c.args.at / 4096 * 4096 + c.args.at % 4096) v) (sym e) h))
