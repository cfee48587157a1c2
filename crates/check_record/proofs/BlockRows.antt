-- Segments that meet as they may not, and the search for them in blocks, one block after the other.
use Rattle.std.proofs.Common.{◌≡◌, ℕ, ◌+◌, ◌<◌, Bool, true, false, ◌&&◌, List, ◌++◌, drop, get_or, length, map, find, Option, None, Some, refl, sym, ap, ◌∙◌}
use Rattle.std.specs.Prelude.{◌==◌, nat_lt}
use Rattle.std.proofs.lemmas.List.{drop_more, map-append}
use Rattle.std.proofs.lemmas.List.Concat.{flat_map-cons}
use Rattle.line_boxes.proofs.ApartLines.{NeedsMeeting}
use Rattle.check_words.proofs.Appends.{find_hit, find_missed}
use Rattle.rule_spec.specs.Vectors.{Numbered, is_bad_meeting, meets_wrongly}
use Rattle.check_record.specs.Blocks.{segments_in}
use Rattle.check_record.specs.declared.blocks.Block.{Block}

and_false : (b : Bool) → (b && false) ≡ false
and_false true = refl
and_false false = refl

-- segments without a common point don't meet wrongly
pub meeting_needed : (closed : Bool) (count : ℕ) → NeedsMeeting (meets_wrongly closed count)
meeting_needed closed count a b apart =
    ap (λ met. nat_lt a.0 b.0 && is_bad_meeting (b.0 == a.0 + 1) ((closed && (a.0 == 1)) && (b.0 == count)) met) apart
    ∙ and_false (nat_lt a.0 b.0)

-- two segments
abbrev with_other : Numbered → Numbered → Numbered × Numbered
with_other a b = (a, b)

-- what a row of the same segments finds
pub row_at : (p : Numbered × Numbered → Bool) (a : Numbered) (xs ys : List Numbered) (r : Option (Numbered × Numbered)) → ys ≡ xs
    → r ≡ find p (map (with_other a) ys) → find p (map (with_other a) xs) ≡ r
row_at p a xs ys r same h = ap (λ zs. find p (map (with_other a) zs)) (sym same) ∙ sym h

module _ (p : Numbered × Numbered → Bool) (a : Numbered) (blocks : List Block) (i : ℕ) (d : Block) (within : i < length blocks) where
  next_block : map (with_other a) (segments_in (drop i blocks)) ≡ map (with_other a) (get_or blocks i d).segments.now
      ++ map (with_other a) (segments_in (drop (i + 1) blocks))
  next_block =
      ap (λ rest. map (with_other a) (segments_in rest)) (drop_more blocks i d within)
      ∙ ap (map (with_other a)) (flat_map-cons (λ (block : Block). block.segments.now) (get_or blocks i d) (drop (i + 1) blocks))
      ∙ map-append (with_other a) (get_or blocks i d).segments.now (segments_in (drop (i + 1) blocks))

  -- a pair found in one block is the first of all blocks from there on, and where it has none the next blocks decide
  pub block_hit : (found : Numbered × Numbered) → find p (map (with_other a) (get_or blocks i d).segments.now) ≡ Some found
      → find p (map (with_other a) (segments_in (drop i blocks))) ≡ Some found
  block_hit found h = ap (find p) next_block ∙ find_hit p (map (with_other a) (get_or blocks i d).segments.now)
      (map (with_other a) (segments_in (drop (i + 1) blocks))) found h

  pub block_missed : find p (map (with_other a) (get_or blocks i d).segments.now) ≡ None
      → find p (map (with_other a) (segments_in (drop i blocks))) ≡ find p (map (with_other a) (segments_in (drop (i + 1) blocks)))
  block_missed h = ap (find p) next_block ∙ find_missed p (map (with_other a) (get_or blocks i d).segments.now)
      (map (with_other a) (segments_in (drop (i + 1) blocks))) h
