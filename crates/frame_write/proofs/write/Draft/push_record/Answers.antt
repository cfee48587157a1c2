use Rattle.std.proofs.Common.{◌∙◌, ◌++◌, ◌∷◌, [], ap, ℕ, List, rules}
use Rattle.std.proofs.Math.Seq.{take-length}
use Rattle.frame_spec.specs.WrittenRecord.{directory_entries, field_area, leader_text, length_digits, position_digits, written_record}
use Rattle.frame_write.specs.OutFields.{fields_of, is_first, lengths_of}
use Rattle.frame_write.proofs.Steps.{appended, front_more, front_through}
use Rattle.frame_write.proofs.write.Draft.push_record.Goals as goal

pub returns-clause-ok : goal.returns-clause-ok
unfolding written_record
returns-clause-ok c =
    let fields = fields_of c.args.self.now.fields.now in
    let lengths = lengths_of c.args.self.now.fields.now in
    let layout = c.args.self.now.layout in
    let out : List ℕ = c.args.out.now.items in
    let leader : List ℕ = leader_text (is_first c.args.self.now.kind) lengths in
    let behind : List ℕ = c.push_leader.new.out.items in
    c.in_ok-push_field_area.ensures.ok
    ∙ appended out _ _ _ leader (directory_entries (length_digits lengths) (position_digits lengths) 0 fields) (30 ∷ []) (field_area fields)
    c.in_ok-push_leader.ensures.ok
    (c.in_ok-push_directory.ensures.ok
    ∙ ap (λ (m : ℕ). behind ++ directory_entries m layout.position_digits 0 fields) c.requires.length_digits_are
    ∙ ap (λ (n : ℕ). behind ++ directory_entries (length_digits lengths) n 0 fields) c.requires.position_digits_are)
    c.in_ok-push.ensures.items

pub returns-in_err-push_directory-clause-err : goal.returns-in_err-push_directory-clause-err
returns-in_err-push_directory-clause-err c =
    let out : List ℕ = c.args.out.now.items in
    let begun = front_more out out _ _ (take-length out) c.in_ok-push_leader.ensures.ok in
    let here = front_through out _ _ begun c.in_err-push_directory.ensures.err in
    search rules

pub returns-in_err-push_field_area-clause-err : goal.returns-in_err-push_field_area-clause-err
returns-in_err-push_field_area-clause-err c =
    let out : List ℕ = c.args.out.now.items in
    let begun = front_more out out _ _ (take-length out) c.in_ok-push_leader.ensures.ok in
    let entered = front_more out _ _ _ begun c.in_ok-push_directory.ensures.ok in
    let ended = front_more out _ _ _ entered c.in_ok-push.ensures.items in
    let here = front_through out _ _ ended c.in_err-push_field_area.ensures.err in
    search rules
