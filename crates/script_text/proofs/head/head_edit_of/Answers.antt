use Rattle.std.proofs.Common.{[], ◌++◌, drop, codes, refl, ◌∙◌}
use Rattle.std.specs.Fmt.{decimal}
use Rattle.std.proofs.lemmas.List.{append-nil}
use Rattle.s57_types.specs.Heads.{level_number}
use Rattle.text_spec.specs.EditLine.{head_words, text_word}
use Rattle.text_spec.specs.Lines.{spaced_words}
use Rattle.script_text.proofs.Heads.{free_level, free_value, head_edit_with, same_head_edit, texts_of_width, width_of_texts}
use Rattle.script_text.proofs.head.head_edit_of.Goals as goal

pub returns-clause-width : goal.returns-clause-width
returns-clause-width c =
    let edit = head_edit_with c.in_ok-text_of.field-0 c.in_ok-text_of-2.field-0 c.in_ok-date_of.field-0 c.in_ok-date_of-2.field-0
    c.level_of.result c.in_ok-text_of-3.field-0 in
    width_of_texts edit (record {
      edtn = c.in_ok-text_of.ensures.width;
      updn = c.in_ok-text_of-2.ensures.width;
      uadt = c.in_ok-date_of.ensures.width;
      isdt = c.in_ok-date_of-2.ensures.width;
      comt = c.in_ok-text_of-3.ensures.width;
    }) c.in_ok-date_of.ensures.length c.in_ok-date_of-2.ensures.length

pub returns-clause-found : goal.returns-clause-found
returns-clause-found c = λ edit width spelled.
    let words = head_words edit in
    let texts = texts_of_width edit width in
    let level = decimal (level_number edit.aall) in
    let kind = c.next_part.ensures.part 32 (codes "head") (spaced_words words) refl refl spelled in
    let edtn = c.next_value.ensures (codes "edtn") (text_word edit.edtn ++ []) (spaced_words (drop 1 words)) refl (free_value edit.edtn).free refl kind.1 in
    let updn = c.next_value-2.ensures (codes "updn") (text_word edit.updn ++ []) (spaced_words (drop 2 words)) refl (free_value edit.updn).free refl edtn.1 in
    let uadt = c.next_value-3.ensures (codes "uadt") (text_word edit.uadt ++ []) (spaced_words (drop 3 words)) refl (free_value edit.uadt).free refl updn.1 in
    let isdt = c.next_value-4.ensures (codes "isdt") (text_word edit.isdt ++ []) (spaced_words (drop 4 words)) refl (free_value edit.isdt).free refl uadt.1 in
    let aall = c.next_value-5.ensures (codes "aall") (level ++ []) (spaced_words (drop 5 words)) refl (free_level edit.aall).free refl isdt.1 in
    let comt = c.next_value-6.ensures (codes "comt") (text_word edit.comt ++ []) [] refl (free_value edit.comt).free tt aall.1 in
    same_head_edit _ _ _ _ _ _ edit
    (c.in_ok-text_of.ensures.found edit.edtn texts.edtn (edtn.0 ∙ append-nil (text_word edit.edtn)))
    (c.in_ok-text_of-2.ensures.found edit.updn texts.updn (updn.0 ∙ append-nil (text_word edit.updn)))
    (c.in_ok-date_of.ensures.found edit.uadt texts.uadt width.uadt (uadt.0 ∙ append-nil (text_word edit.uadt)))
    (c.in_ok-date_of-2.ensures.found edit.isdt texts.isdt width.isdt (isdt.0 ∙ append-nil (text_word edit.isdt)))
    (c.level_of.ensures edit.aall (aall.0 ∙ append-nil level))
    (c.in_ok-text_of-3.ensures.found edit.comt texts.comt (comt.0 ∙ append-nil (text_word edit.comt)))
