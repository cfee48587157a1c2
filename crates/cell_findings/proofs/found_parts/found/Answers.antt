use Rattle.std.proofs.Common.{◌∙◌, IsTrue, Bor, List, ap, arith, max, subst, sym}
use Rattle.std.specs.Prelude.{IfOk}
use Rattle.std.specs.List.{All, AllZip}
use Rattle.s57_types.specs.declared.cell.Cell.{Cell}
use Rattle.s57_types.specs.declared.name.RecName.{RecName}
use Rattle.rayon.specs.Lists.{chunks_of, chunks_size, chunks_slice}
use Rattle.rayon.proofs.ToStd.{chunks_of-concat, slice-AllZip}
use Rattle.rule_spec.specs.Records.{is_chain_part}
use Rattle.cell_findings.specs.Parts.{IsWindowOf}
use Rattle.cell_findings.proofs.Collected.{all_ok}
use Rattle.cell_findings.proofs.FoundParts.{cut_are}
use Rattle.cell_findings.proofs.found_parts.found.Goals as goal

abbrev is_part : Cell → RecName → Type 0
is_part cell n = IsTrue (is_chain_part cell n)

pub collect-requires-clause-ready : goal.collect-requires-clause-ready
collect-requires-clause-ready g c κs within = λ k d lt names is.
    let size = ap chunks_size c.map.ensures.base ∙ c.par_chunks.ensures.size in
    let slice = ap chunks_slice c.map.ensures.base ∙ c.par_chunks.ensures.slice in
    let each = subst (All (All (is_part c.args.look.now))) (λ i. chunks_of (max (sym size i) 1) (sym slice i))
    (cut_are (is_part c.args.look.now) 1024 c.args.names.now (omega arith) c.requires) in (
      subst (λ (cell : Cell). All (is_part cell) names.now) (sym (ap (λ f. f.1.now) c.map.ensures.f))
          (subst (All (is_part c.args.look.now)) (sym is) (each k d lt)),
      λ answer ok. tt,
    )

pub returns : goal.returns
returns g c =
    let told = c.in_ok-windows.ensures in
    let size = ap chunks_size c.map.ensures.base ∙ c.par_chunks.ensures.size in
    let slice = ap chunks_slice c.map.ensures.base ∙ c.par_chunks.ensures.slice in
    let cut = chunks_of 1024 c.args.names.now in
    let each = all_ok _ (λ (names : Bor (List RecName)) answer. IfOk answer (IsWindowOf c.map.result.f.1.now names.now)) told.1.0 told.0 told.1.2
    c.in_ok-windows.windows told.2 c.in_ok-windows-2.field-0 c.in_ok-windows-2.was in
    let windows = slice-AllZip told.1.0 cut (told.1.1 ∙ (λ i. chunks_of (max (size i) 1) (slice i))) (IsWindowOf c.map.result.f.1.now) _ each in (
      cut,
      chunks_of-concat 1024 c.args.names.now (omega arith),
      subst (λ cell. AllZip (IsWindowOf cell) cut c.in_ok-windows-2.field-0.items) (ap (λ f. f.1.now) c.map.ensures.f) windows,
    )
