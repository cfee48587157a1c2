use Rattle.std.proofs.Common.{◌++◌}
use Rattle.std.specs.Prelude.{codes}
use Rattle.cell_picture.specs.Picture.{key_entry}
use Rattle.std.proofs.lemmas.Result.{on_ok_weaker}
use Rattle.cell_picture.proofs.Pushes.{after}
use Rattle.cell_picture.proofs.frame.push_key.Goals as goal

pub returns : goal.returns
returns c =
    let out = c.args.out.now.items in
    let edge = key_entry (codes "edge") (codes "600 590 850 590") (codes "950 640") (codes "edge") in
    let node = key_entry (codes "node") (codes "1700 590") (codes "1800 640") (codes "connected node") in
    let isolated = key_entry (codes "isolated") (codes "3300 590") (codes "3400 640") (codes "isolated node") in
    let sounding = key_entry (codes "sounding") (codes "4750 590") (codes "4850 640") (codes "sounding") in
    let group1 = key_entry (codes "group1") (codes "5800 500 6050 500 6050 680 5800 680") (codes "6150 640") (codes "Group 1 area") in
    let coverage = key_entry (codes "coverage") (codes "7450 500 7700 500 7700 680 7450 680") (codes "7800 640") (codes "coverage") in
    let mark = key_entry (codes "mark") (codes "8800 590 9050 590") (codes "9150 640") (codes "finding, listed by its number") in
    on_ok_weaker c.push_key_entry-7.result
    (λ last. after out edge (node ++ (isolated ++ (sounding ++ (group1 ++ (coverage ++ mark))))) c.in_ok-push_key_entry.ensures
    (after c.push_key_entry.new.out.items node (isolated ++ (sounding ++ (group1 ++ (coverage ++ mark)))) c.in_ok-push_key_entry-2.ensures
    (after c.push_key_entry-2.new.out.items isolated (sounding ++ (group1 ++ (coverage ++ mark))) c.in_ok-push_key_entry-3.ensures
    (after c.push_key_entry-3.new.out.items sounding (group1 ++ (coverage ++ mark)) c.in_ok-push_key_entry-4.ensures
    (after c.push_key_entry-4.new.out.items group1 (coverage ++ mark) c.in_ok-push_key_entry-5.ensures
    (after c.push_key_entry-5.new.out.items coverage mark c.in_ok-push_key_entry-6.ensures last))))))
    c.push_key_entry-7.ensures
