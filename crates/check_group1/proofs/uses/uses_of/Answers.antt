use Rattle.std.proofs.Common.{◌≡◌, ◌-◌, ◌++◌, get_or, ap, sym, ◌∙◌}
use Rattle.std.specs.Prelude.{option_to_list, option_and_then, option_map, slice_get}
use Rattle.s57_types.specs.declared.name.Kind.TheVariants.{Vi}
use Rattle.s57_types.specs.declared.record.Feature.{Feature}
use Rattle.cell_spec.specs.declared.key.Ref.{Ref}
use Rattle.rule_spec.specs.Sides.{use_by, use_of_row}
use Rattle.check_words.proofs.FoundItems.{found_more}
use Rattle.check_group1.proofs.uses.uses_of.Goals as goal

-- what stands past a list's end
no_pointer : Ref
no_pointer = record { from = record { kind = Vi; id = 0 }; place = 0 }

pub loop-pointer-preserved : goal.loop-pointer-preserved
unfolding no_pointer
loop-pointer-preserved g c = λ cell keys near asked.
    let pointer = get_or c.args.pointers.now c.loop-pointer.pointer-index no_pointer in
    let found = c.feature_named-feature.ensures cell keys near (asked c.loop-pointer.pointer-index no_pointer c.loop-pointer-test.true) in
    let use_is : c.use_by.result ≡ use_by cell pointer = c.use_by.ensures
    ∙ ap (option_and_then (λ (f : Feature). option_map (use_of_row pointer f) (slice_get f.places (pointer.place - 1)))) found in
    c.in_ok-push_use.ensures
    ∙ (λ i. c.loop-pointer.invariant cell keys near asked i ++ option_to_list (use_is i))
    ∙ sym (found_more (use_by cell) c.args.pointers.now c.loop-pointer.pointer-index no_pointer c.loop-pointer-test.true)
