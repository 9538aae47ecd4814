use Rattle.std.proofs.Common.{◌≡◌, drop}
use Rattle.base_containers.specs.Gathered.{members_of}
use Rattle.vap_match.specs.Forms.{all_members, is_list_of, is_text}
use Rattle.vap_match.proofs.form.are_text_lists.Given as goal

abbrev pub invariant-loop-member : goal.invariant-loop-member
invariant-loop-member l =
    all_members (is_list_of is_text) (members_of (drop l.member-index l.members))
    ≡ all_members (is_list_of is_text) (members_of l.members)
