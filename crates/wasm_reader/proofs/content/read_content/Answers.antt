use Rattle.std.proofs.Common.{sym}
use Rattle.module_specs.specs.ModuleReading.{imports_at}
use Rattle.wasm_reader.specs.Flat.{flat_part}
use Rattle.wasm_code.proofs.Tokens.{gives_same}
use Rattle.wasm_reader.proofs.content.read_content.Goals as goal

pub returns-in-Import-clause-is : goal.returns-in-Import-clause-is
returns-in-Import-clause-is c =
    rw c.in-Import.is (gives_same c.imports.result (flat_part (imports_at c.args.id c.args.bytes.now c.args.at)) (sym c.imports.ensures.is))
