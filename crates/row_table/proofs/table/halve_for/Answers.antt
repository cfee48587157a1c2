use Rattle.std.proofs.Common.{arith, ap, sym, ◌∙◌, ◌≡◌, ℕ, ◌+◌, ◌<◌, List, length, length-take, length-drop, add-one, drop, Bool, Ordering}
use Rattle.row_spec.specs.Rows.{begins_by}
use Rattle.row_spec.specs.Blocks.{block_at, halved}
use Rattle.row_table.proofs.Halves.{halved_upper, halved_lower}
use Rattle.row_spec.proofs.Joined.{block_at-halved, block_at-halved_next}
use Rattle.row_table.proofs.table.halve_for.Goals as goal

-- the upper half begins by the key as its run says
begun : {K V : Type 0} (cmp : K → K → Ordering) (blocks : List (List (K × V))) (key : K) (place : ℕ) {now : List (List (K × V))} {upper : ℕ}
    {rows : List (K × V)} {answer : Bool} → place < length blocks → now ≡ halved blocks place → upper ≡ place + 1
    → rows ≡ block_at now upper → answer ≡ begins_by cmp rows key → begins_by cmp (drop 128 (block_at blocks place)) key ≡ answer
begun cmp blocks key place {now} {upper} within is next at answer_is =
    let there : block_at now upper ≡ drop 128 (block_at blocks place) = rw (is, next, add-one) (block_at-halved_next blocks place within) in
    ap (λ those. begins_by cmp those key) (sym there ∙ sym at) ∙ sym answer_is

pub returns-then-begins_by-clause-block : goal.returns-then-begins_by-clause-block
returns-then-begins_by-clause-block g c =
    let begins = begun g.K.Ord.cmp c.args.blocks.now.blocks c.args.key.now c.args.place c.requires.block.in_range c.halve-upper.ensures.blocks
    c.halve-upper.ensures.upper c.run.ensures.rows c.begins_by.ensures ∙ c.if-begins_by.true in
    rw (c.halve-upper.ensures.blocks, c.halve-upper.ensures.upper)
    (halved_upper g.K.Ord.cmp g.met.K.Ord.total c.args.blocks.now.blocks c.args.key.now c.args.place c.requires.ascending
    c.requires.block c.requires.full begins)

pub returns-then-begins_by-clause-room : goal.returns-then-begins_by-clause-room
returns-then-begins_by-clause-room g c =
    rw (
      c.halve-upper.ensures.blocks,
      c.halve-upper.ensures.upper,
      add-one,
      block_at-halved_next c.args.blocks.now.blocks c.args.place c.requires.block.in_range,
    )
    (omega (arith, length-drop 128 (block_at c.args.blocks.now.blocks c.args.place), c.requires.full))

pub returns-else-begins_by-clause-block : goal.returns-else-begins_by-clause-block
returns-else-begins_by-clause-block g c =
    rw (c.halve-upper.ensures.blocks) (halved_lower g.K.Ord.cmp g.met.K.Ord.total c.args.blocks.now.blocks c.args.key.now c.args.place
    c.requires.ascending c.requires.block c.requires.full
    (begun g.K.Ord.cmp c.args.blocks.now.blocks c.args.key.now c.args.place c.requires.block.in_range c.halve-upper.ensures.blocks
    c.halve-upper.ensures.upper c.run.ensures.rows c.begins_by.ensures ∙ c.if-begins_by.false))

pub returns-else-begins_by-clause-room : goal.returns-else-begins_by-clause-room
returns-else-begins_by-clause-room g c =
    rw (c.halve-upper.ensures.blocks, block_at-halved c.args.blocks.now.blocks c.args.place c.requires.block.in_range)
    (omega (arith, length-take 128 (block_at c.args.blocks.now.blocks c.args.place), c.requires.full))
