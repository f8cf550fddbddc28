-- The host's end for callers in C, proved. Assumes nothing.
use Rattle.host_bytes.proofs.RoundTrip.{cleared_is_none}
use Rattle.interface_host.proofs.Tells.{built_told, unbuilt_told, unasked_told, unbuilt_stays, building_answered, taken_told, untaken_told, verdict_told, unjudged_told}
use Rattle.interface_host.proofs.Begun.{begun_told, unbegun_stays, beginning_answered}
use Rattle.interface_host.proofs.Lasting.{calls_say}
use Rattle.demands.specs.HostOutside.{HostOutside}

pub host_outside : HostOutside
host_outside =
    record {
      build = built_told;
      build_refused = unbuilt_told;
      build_unasked = unasked_told;
      build_stays = unbuilt_stays;
      begin = begun_told;
      begin_stays = unbegun_stays;
      build_answers = building_answered;
      begin_answers = beginning_answered;
      take = taken_told;
      verdict = verdict_told;
      take_none = untaken_told;
      verdict_none = unjudged_told;
      cleared = cleared_is_none;
      calls = calls_say;
    }
