use Rattle.std.proofs.Common.{◌∙◌}
use Rattle.geo_exact.proofs.SignTests.{one_sign_found, zeros_found}
use Rattle.geo_exact.proofs.ContactTests.{apart_by_first, apart_by_second, all_on_line, across}
use Rattle.geo_exact.proofs.contact.meeting_by_sides.Goals as goal

pub returns-then-are_one_side : goal.returns-then-are_one_side
returns-then-are_one_side c =
    apart_by_first c.args.p c.args.q c.args.r c.args.s
    (one_sign_found _ _ _ _ _ _ c.orient-r_side.ensures c.orient-s_side.ensures c.are_one_side.ensures c.if-are_one_side.true)

pub returns-then-are_one_side-2 : goal.returns-then-are_one_side-2
returns-then-are_one_side-2 c =
    apart_by_second c.args.p c.args.q c.args.r c.args.s
    (one_sign_found _ _ _ _ _ _ c.orient-r_side.ensures c.orient-s_side.ensures c.are_one_side.ensures c.if-are_one_side.false)
    (one_sign_found _ _ _ _ _ _ c.orient-p_side.ensures c.orient-q_side.ensures c.are_one_side-2.ensures c.if-are_one_side-2.true)

pub returns-then-are_on_line : goal.returns-then-are_on_line
returns-then-are_on_line c =
    c.meeting_along_line.ensures
    ∙ all_on_line c.args.p c.args.q c.args.r c.args.s
    (one_sign_found _ _ _ _ _ _ c.orient-r_side.ensures c.orient-s_side.ensures c.are_one_side.ensures c.if-are_one_side.false)
    (one_sign_found _ _ _ _ _ _ c.orient-p_side.ensures c.orient-q_side.ensures c.are_one_side-2.ensures c.if-are_one_side-2.false)
    (zeros_found _ _ _ _ _ _ c.orient-r_side.ensures c.orient-s_side.ensures c.are_on_line.ensures c.if-are_on_line.true)

pub returns : goal.returns
returns c =
    across c.args.p c.args.q c.args.r c.args.s
    (one_sign_found _ _ _ _ _ _ c.orient-r_side.ensures c.orient-s_side.ensures c.are_one_side.ensures c.if-are_one_side.false)
    (one_sign_found _ _ _ _ _ _ c.orient-p_side.ensures c.orient-q_side.ensures c.are_one_side-2.ensures c.if-are_one_side-2.false)
    (zeros_found _ _ _ _ _ _ c.orient-r_side.ensures c.orient-s_side.ensures c.are_on_line.ensures c.if-are_on_line.false)
