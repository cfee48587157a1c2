use Rattle.script_text.proofs.items.take_item.Goals as goal

pub returns : goal.returns
returns c = λ words earlier. record {
  attrs = c.in_ok-take_attribute.ensures words earlier.attrs;
  natf = c.in_ok-take_attribute-2.ensures words earlier.natf;
  ends = c.in_ok-take_end.ensures words earlier.ends;
  plane = c.in_ok-take_point.ensures words earlier.plane;
  deep = c.in_ok-take_sounding.ensures words earlier.deep;
  partners = c.in_ok-take_partner.ensures words earlier.partners;
  places = c.in_ok-take_place.ensures words earlier.places;
}
