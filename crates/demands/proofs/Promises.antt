-- All promises hold. Assumes nothing.
use Rattle.listing.proofs.RoundTrip.{decode_sound}
use Rattle.demands.specs.Promises.{Promises}
use Rattle.demands.proofs.Conditions.{conditions-are}
use Rattle.demands.proofs.CheckingOrder.{checking_order}
use Rattle.demands.proofs.Demand1.{demand_1, untouched}
use Rattle.demands.proofs.Demand2.{demand_2}
use Rattle.demands.proofs.ListingBytes.{listing_bytes}
use Rattle.demands.proofs.SearchIs.{search_is}
use Rattle.demands.proofs.Demand3.{demand_3}
use Rattle.demands.proofs.Answered.{answered, answered_always}
use Rattle.demands.proofs.GotTo.{got_to, packets_tell, two_way}
use Rattle.demands.proofs.BySwitches.{same_totals_of, by_switches_is}
use Rattle.demands.proofs.RoundingCase.{more_by_switch}
use Rattle.demands.proofs.BuyingPages.{page_written, page_lines, page_form}
use Rattle.demands.proofs.Counted.{counted}
use Rattle.demands.proofs.Premises.{true_sendings, premises, lost_over_sound}
use Rattle.demands.proofs.Ceilings.{ceilings}
use Rattle.demands.proofs.Rounds.{round_trail, round_run_is, shorter_trail, by_label_is}
use Rattle.demands.proofs.Service.{marks, out_of_service, states_of, all_in_service}
use Rattle.demands.proofs.Consoles.{sets, console_calls, isolated, agreeing, console_searches}
use Rattle.demands.proofs.FedCalls.{fed_calls}
use Rattle.demands.proofs.Components.{never_nine, parted, elsewhere, no_links_is, one_component}

pub promises : Promises
promises = record {
  demand_1 = demand_1;
  untouched = untouched;
  conditions = conditions-are;
  checking_order = checking_order;
  demand_2 = demand_2;
  listing_bytes = listing_bytes;
  search_is = search_is;
  demand_3 = λ s p r. demand_3 s r.bytes p r.read;
  answered = λ s p r. answered s r.bytes p r.read;
  answered_always = answered_always;
  got_to = got_to;
  two_way = two_way;
  packets_tell = λ s p r. packets_tell s r.bytes p r.read;
  same_totals = same_totals_of;
  by_switches_is = λ s p r. by_switches_is s r.bytes p r.read;
  more_by_switch = more_by_switch;
  page_written = λ s p r. page_written s r.bytes p r.read;
  page_lines = page_lines;
  page_form = page_form;
  counted = counted;
  true_sendings = true_sendings;
  premises = premises;
  lost_over_sound = λ s p r. lost_over_sound p (decode_sound s p r.bytes r.read);
  ceilings = ceilings;
  round_trail = λ s p r. round_trail s r.bytes p r.read;
  round_run_is = λ s p r. round_run_is s r.bytes p r.read;
  shorter_trail = λ s p r. shorter_trail s r.bytes p r.read;
  by_label_is = λ s p r. by_label_is p (decode_sound s p r.bytes r.read);
  marks = marks;
  out_of_service = λ s p r l out. out_of_service p l out s r.bytes r.read;
  states_of = λ s p r. states_of s r.bytes p r.read;
  all_in_service = all_in_service;
  sets = sets;
  console_calls = console_calls;
  isolated = isolated;
  agreeing = agreeing;
  fed_calls = fed_calls;
  console_searches = console_searches;
  never_nine = never_nine;
  parted = λ s p r. parted s r.bytes p r.read;
  elsewhere = λ s p r. elsewhere s r.bytes p r.read;
  no_links_is = λ s p r. no_links_is s r.bytes p r.read;
  one_component = λ s p r. one_component s p r.read (decode_sound s p r.bytes r.read);
}
