-- Good input files leave no refusal.
use Rattle.std.proofs.Common.{◌≡◌, inl, ℕ, ◌+◌, ◌<◌, ◌≤◌, ◌^◌, false, List, [], length, Ok, refl, ap, arith}
use Rattle.std.specs.Prelude.{nat_lt, slice_index_or}
use Rattle.std.proofs.lemmas.Bool.Decides.{nat_tests}
use Rattle.enc_outside.specs.Files.{Files}
use Rattle.history_spec.specs.Steps.{finding_limit}
use Rattle.rule_spec.specs.Findings.{finding_total}
use Rattle.text_spec.specs.OrderLine.{order_line}
use Rattle.text_spec.specs.declared.command.Command.{Command}
use Rattle.order_text.proofs.OrderLines.{order_of-line}
use Rattle.call_files.specs.GoodFiles.{AreGoodScripts, IsGoodCell, IsGoodOrder, IsGoodScript, IsThere}
use Rattle.call_files.specs.Inputs.{CellIs, FileIs, OrderIs, ScriptIs, ScriptsAre, cell_limit, order_in, order_limit, script_limit}

pub not_above : (limit n : ℕ) → n ≤ limit → nat_lt limit n ≡ false
not_above limit n within = grind (arith, nat_tests)

pub content_is : (limit : ℕ) (name bytes : List ℕ) (files : Files) → IsThere limit name bytes files → FileIs limit name files (Ok bytes)
content_is limit name bytes files file = rw file.there (rw (not_above limit (length bytes) file.within) refl)

pub cell_is : (name : List ℕ) (files : Files) (good : IsGoodCell name files) → CellIs name files (Ok good.start)
cell_is name files good = inl (
  good.bytes,
  content_is cell_limit name good.bytes files good.file,
  rw good.decoded (rw (not_above finding_limit (finding_total good.start) good.few) refl),
)

pub script_is : (session : ℕ) (name : List ℕ) (files : Files) (commands : List Command) → IsGoodScript name files commands
    → ScriptIs session name files (Ok commands)
script_is session name files commands good = inl (good.bytes, content_is script_limit name good.bytes files good.file, good.script)

pub scripts_are : (names : List (List ℕ)) (files : Files) (commands : List (List Command)) → AreGoodScripts names files commands
    → ScriptsAre names files (Ok commands)
scripts_are names files commands good = (
  good.many,
  record {
    each = λ k below. let many = good.many in
        script_is (k + 1) (slice_index_or names k []) files (slice_index_or commands k []) (good.each k (omega (arith, below, many)));
  },
)

pub order_is : (quotas name : List ℕ) (files : Files) (good : IsGoodOrder quotas name files) → length quotas < 2 ^ 32
    → OrderIs quotas name files (Ok good.sessions)
order_is quotas name files good few =
    inl (
      order_line good.sessions,
      content_is order_limit name (order_line good.sessions) files good.file,
      ap order_in (order_of-line quotas good.sessions few good.order),
    )
