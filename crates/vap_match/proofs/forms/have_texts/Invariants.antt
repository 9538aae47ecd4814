use Rattle.std.proofs.Common.{◌≡◌}
use Rattle.serde_json.specs.View.{members_view}
use Rattle.vap_match.specs.Forms.{all_members, is_text}
use Rattle.vap_match.proofs.forms.have_texts.Given as goal

abbrev pub invariant-loop-member : goal.invariant-loop-member
invariant-loop-member l = record {
  can_next : goal.iterator-loop-member.can_next l.member-iterator;
  is_finite : goal.iterator-loop-member.is_finite l.member-iterator;
  exact : all_members is_text (members_view l.member-iterator) ≡ all_members is_text (members_view l.members.entries);
}
