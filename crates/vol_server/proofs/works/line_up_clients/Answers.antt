use Rattle.std.proofs.Common.{ap, refl, subst, sym, ◌∙◌, arith, length, All}
use Rattle.std.proofs.lemmas.List.Elements.{All-nil, All-push}
use Rattle.vol_server.specs.Laws.Tasks.{IsEmptyBench, IsReady, client_of, of_client}
use Rattle.vol_server.proofs.LinedUp.{first_of, none_listed_flat, one_listed_flat, rest_of}
use Rattle.vol_server.proofs.Splitting.{one_longer}
use Rattle.vol_server.proofs.works.line_up_clients.Goals as goal

pub clients-init : goal.clients-init
clients-init g c = record {
  clients = none_listed_flat (of_client client_of) c.args.works.now.items _ c.args.clients.items c.requires.empty c.into_iter-waiting.ensures.rest;
  ready = subst (All IsReady) (sym c.requires.empty) (All-nil IsReady);
  empty = subst (All IsEmptyBench) (sym c.into_iter-free.ensures.rest) c.requires.benches.1;
  left = omega arith;
  as_many = omega (arith, c.requires.benches.0, c.args.clients.ok.0, c.args.benches.ok.0, c.into_iter-waiting.ensures.len, c.into_iter-free.ensures.len);
  count = c.len-count.ensures ∙ c.into_iter-waiting.ensures.len ∙ c.args.clients.ok.0;
  made = ap length c.requires.empty;
  room = refl;
}

pub clients-preserved : goal.clients-preserved
clients-preserved g c = let so_far = c.clients.invariant in record {
  clients = one_listed_flat (of_client client_of) c.clients.works.items c.push_reserved.new.self.items _ _ _ c.args.clients.items
      c.push_reserved.ensures.items c.in-Some.ensures.items so_far.clients;
  ready = subst (All IsReady) (sym c.push_reserved.ensures.items) (All-push IsReady c.clients.works.items _ so_far.ready
      (first_of IsEmptyBench _ _ _ c.in-Some-bench.ensures.items so_far.empty));
  empty = rest_of IsEmptyBench _ _ _ c.in-Some-bench.ensures.items so_far.empty;
  left = omega (arith, c.in-Some.ensures.len, so_far.left);
  as_many = omega (arith, c.in-Some.ensures.len, c.in-Some-bench.ensures.len, so_far.as_many);
  count = so_far.count;
  made = one_longer c.clients.works.items c.push_reserved.new.self.items _ c.clients.n c.push_reserved.ensures.items so_far.made;
  room = c.push_reserved.ensures.capacity ∙ so_far.room;
}
