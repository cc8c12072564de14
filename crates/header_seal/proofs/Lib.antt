-- what was sealed opens again
mod OpenedAgain
