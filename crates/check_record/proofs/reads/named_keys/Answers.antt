use Rattle.std.proofs.Common.{append_assoc, ◌≡◌, [], ◌∷◌, ◌++◌, IfOk, map, ap, ◌∙◌, subst}
use Rattle.s57_types.specs.declared.record.Spot.{Spot}
use Rattle.s57_types.specs.Heads.{head_name}
use Rattle.cell_spec.specs.Ascending.{ascending}
use Rattle.cell_spec.specs.Names.{key_order}
use Rattle.cell_spec.specs.declared.key.Key.TheVariants.{Name}
use Rattle.check_record.proofs.NameKeys.{turned_names}
use Rattle.check_record.proofs.reads.named_keys.Goals as goal

pub returns : goal.returns
returns c =
    let name = c.args.name in
    let placed = c.push_place_names.new.names.items in
    let places : map Name placed ≡ map (λ (s : Spot). Name s.to) c.args.feature.now.places =
    c.in_ok-push_place_names.ensures ∙ ap (λ names. map Name names ++ map (λ (s : Spot). Name s.to) c.args.feature.now.places) c.in_ok-names.ensures.items in
    let items : c.push-2.new.self.items ≡ placed ++ name ∷ head_name ∷ [] =
    c.in_ok-push-2.ensures.items
    ∙ ap (λ names. names ++ c.of_head.result ∷ []) c.in_ok-push.ensures.items
    ∙ append_assoc placed (name ∷ []) (c.of_head.result ∷ [])
    ∙ ap (λ head. placed ++ name ∷ head ∷ []) c.of_head.ensures in
    subst (λ keys'. IfOk c.keys_of_names.result (λ keys. keys ≡ keys'))
    (ap (λ names. ascending key_order (map Name names)) items
    ∙ turned_names placed (name ∷ head_name ∷ [])
    ∙ ap (λ keys. ascending key_order (Name name ∷ Name head_name ∷ keys)) places)
    c.keys_of_names.ensures
